use Rattle.std.proofs.{Common.{◌++◌, ◌∙◌, ◌∷◌, ◌≡◌, [], ap, ap₂, List, sym, ℕ}, lemmas.List.Sums.{fold-append}}
use Rattle.std.specs.{Hash.DefaultHasher.{finish, initial, write, write_byte}, Int.{to_le_bytes, w64}}
use Rattle.fc_bytes.specs.{all_bytes}
use Rattle.fc_bytes.proofs.board.BoardBytes.board_hash.Goals as goal

-- a write after another is a write of both
on_and_on : (bytes more : List ℕ) → write (write initial bytes) more ≡ write initial (bytes ++ more)
unfolding write
on_and_on bytes more = sym (fold-append write_byte initial bytes more)

pub returns : goal.returns
returns c =
    let first = c.finish-first.ensures ∙ ap finish (c.write.ensures ∙ ap₂ write c.new-hasher.ensures c.all_bytes.ensures) in
    let next = c.finish.ensures ∙ ap finish (c.write-2.ensures ∙ ap (λ state. write state (1 ∷ [])) (c.write.ensures ∙ ap₂ write c.new-hasher.ensures c.all_bytes.ensures) ∙ on_and_on (all_bytes c.args.self.now) (1 ∷ [])) in
    c.concat.ensures ∙ ap₂ (λ (front back : List ℕ). front ++ back) (c.to_le_bytes.ensures ∙ ap (to_le_bytes w64) first) (c.to_le_bytes-2.ensures ∙ ap (to_le_bytes w64) next)
