use Rattle.std.proofs.Common.{◌∙◌, ◌≤◌, ap, arith, length, map}
use Rattle.fc_bytes.proofs.LaidBytes.{between-mapped, laid-flat, last-bound, lengths-mapped, nine-bounds}
use Rattle.fc_bytes.specs.{inside.{card_byte}, padded}
use Rattle.fc_bytes.proofs.board.column_bytes.Goals as goal

pub bytes_before-requires : goal.bytes_before-requires
bytes_before-requires g c =
    let nine = nine-bounds c.laid.result.0.now c.laid.result.1.now c.laid.ensures.bounds
    (ap length c.laid.ensures.columns ∙ c.laid.ensures.well_formed.piles.eight_columns) in
    last-bound c.laid.result.1.now c.laid.ensures.bounds nine

pub returns : goal.returns
returns g c =
    let bounds = c.laid.result.1.now in
    let bytes = c.bytes_of_laid-bytes.result in
    let board = c.args.board.now in
    let room : 52 ≤ length bytes = omega (arith, c.bytes_of_laid-bytes.ensures.size) in
    let nine = nine-bounds c.laid.result.0.now bounds c.laid.ensures.bounds
    (ap length c.laid.ensures.columns ∙ c.laid.ensures.well_formed.piles.eight_columns) in
    record {
      lengths = c.lengths_between.ensures bytes room
          ∙ ap (map length) (between-mapped card_byte c.laid.result.0.now bytes bounds
          c.laid.ensures.bounds room c.bytes_of_laid-bytes.ensures.bytes
          ∙ ap (map (map card_byte)) c.laid.ensures.columns)
          ∙ lengths-mapped card_byte board.columns;
      cards = c.bytes_before.ensures
          ∙ ap (padded 52) (laid-flat card_byte c.laid.result.0.now bytes bounds board.columns
          c.laid.ensures.bounds nine room c.bytes_of_laid-bytes.ensures.bytes c.laid.ensures.columns);
    }
