use Rattle.std.{proofs.Common.{◌∙◌, ap, arith, length, List, map, ℕ}, specs.List.{flat_map}}
use Rattle.{fc_board.specs.inside.{columns_between}, fc_card.specs.{pick, renamed_code}}
use Rattle.fc_bytes.{proofs.CarriedBytes.{AreRenamed, carried_fit, carried_flat, carried_lengths}, specs.{padded}}
use Rattle.fc_bytes.proofs.carried.carried_columns.Goals as goal

pub put_in_order-end-requires-clause-room : goal.put_in_order-end-requires-clause-room
put_in_order-end-requires-clause-room g c =
    let are : AreRenamed g.R.Rule.game c.args.passage.now c.args.board.now c.laid.result.0.now
    c.bytes_of_laid-from.result c.rename_lanes.new.codes c.laid.result.1.now = record {
      is = c.renaming.ensures.passage;
      well = c.laid.ensures.well_formed;
      up = c.laid.ensures.bounds;
      lie = c.laid.ensures.columns;
      long = c.bytes_of_laid-from.ensures.size;
      bytes = c.bytes_of_laid-from.ensures.bytes;
      renamed = c.rename_lanes.ensures
          ∙ ap (λ renaming. map (renamed_code renaming) c.bytes_of_laid-from.result)
          c.renaming.ensures.value;
    } in
    let ordered : (List ℕ) → List (List ℕ) =
    λ order. pick (columns_between c.rename_lanes.new.codes c.laid.result.1.now) order in
    omega (
      arith,
      ap (λ order. length (flat_map (λ column. column) (ordered order))) c.columns.ensures.value,
      carried_fit are,
    )

pub bytes_before-requires : goal.bytes_before-requires
bytes_before-requires g c =
    let are : AreRenamed g.R.Rule.game c.args.passage.now c.args.board.now c.laid.result.0.now
    c.bytes_of_laid-from.result c.rename_lanes.new.codes c.laid.result.1.now = record {
      is = c.renaming.ensures.passage;
      well = c.laid.ensures.well_formed;
      up = c.laid.ensures.bounds;
      lie = c.laid.ensures.columns;
      long = c.bytes_of_laid-from.ensures.size;
      bytes = c.bytes_of_laid-from.ensures.bytes;
      renamed = c.rename_lanes.ensures
          ∙ ap (λ renaming. map (renamed_code renaming) c.bytes_of_laid-from.result)
          c.renaming.ensures.value;
    } in
    let ordered : (List ℕ) → List (List ℕ) =
    λ order. pick (columns_between c.rename_lanes.new.codes c.laid.result.1.now) order in
    omega (
      arith,
      c.put_in_order-end.ensures.end,
      ap (λ order. length (flat_map (λ column. column) (ordered order))) c.columns.ensures.value,
      carried_fit are,
    )

pub returns : goal.returns
returns g c =
    let are : AreRenamed g.R.Rule.game c.args.passage.now c.args.board.now c.laid.result.0.now
    c.bytes_of_laid-from.result c.rename_lanes.new.codes c.laid.result.1.now = record {
      is = c.renaming.ensures.passage;
      well = c.laid.ensures.well_formed;
      up = c.laid.ensures.bounds;
      lie = c.laid.ensures.columns;
      long = c.bytes_of_laid-from.ensures.size;
      bytes = c.bytes_of_laid-from.ensures.bytes;
      renamed = c.rename_lanes.ensures
          ∙ ap (λ renaming. map (renamed_code renaming) c.bytes_of_laid-from.result)
          c.renaming.ensures.value;
    } in
    let ordered : (List ℕ) → List (List ℕ) =
    λ order. pick (columns_between c.rename_lanes.new.codes c.laid.result.1.now) order in
    record {
      lengths = c.put_in_order-end.ensures.lengths
          ∙ ap (λ order. map length (ordered order)) c.columns.ensures.value ∙ carried_lengths are;
      cards = c.bytes_before.ensures ∙ ap (padded 52) (c.put_in_order-end.ensures.bytes
          ∙ ap (λ order. flat_map (λ column. column) (ordered order)) c.columns.ensures.value
          ∙ carried_flat are);
    }
