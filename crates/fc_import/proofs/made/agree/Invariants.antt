use Rattle.std.proofs.Common.{◌≡◌, map}
use Rattle.fc_text.specs.{Left.{tokens_left}, Lines.{words}, Notation.{separates_tokens}}
use Rattle.fc_import.specs.Import.{agree}
use Rattle.fc_import.proofs.made.agree.Given as goal

abbrev pub invariant-loop-token : goal.invariant-loop-token
invariant-loop-token l =
    agree (map (λ left. left.0.bytes) (tokens_left l.left)) (map (λ left. left.0.bytes) (tokens_left l.token-iterator))
    ≡ agree (words separates_tokens l.named) (words separates_tokens l.tokens)
