use Rattle.std.{proofs.Common.{◌∙◌, ap, arith, length, List, ℕ}, specs.List.{flat_map}}
use Rattle.fc_card.specs.{pick}
use Rattle.fc_bytes.proofs.LaidBytes.{ordered-counts, ordered-inside, ordered-of, ordered-pieces}
use Rattle.fc_bytes.proofs.laid.put_in_order.Goals as goal

pub put_pieces-requires-clause-inside : goal.put_pieces-requires-clause-inside
put_pieces-requires-clause-inside c =
    let are = ordered-of c.told-from c.told-bounds c.requires.bounds c.requires.order
    c.in_order-counts.ensures.order in
    let starts = c.in_order-starts.ensures.value
    ∙ ap (λ starts. pick starts c.args.order.now) c.starts_between.ensures in
    let counts = c.in_order-counts.ensures.value
    ∙ ordered-counts are c.lengths_between.result
    (c.lengths_between.ensures c.args.from.now (omega (arith, c.told-from))) in
    ordered-inside are starts counts

pub put_pieces-requires-clause-room : goal.put_pieces-requires-clause-room
put_pieces-requires-clause-room c =
    let are = ordered-of c.told-from c.told-bounds c.requires.bounds c.requires.order
    c.in_order-counts.ensures.order in
    let starts = c.in_order-starts.ensures.value
    ∙ ap (λ starts. pick starts c.args.order.now) c.starts_between.ensures in
    let counts = c.in_order-counts.ensures.value
    ∙ ordered-counts are c.lengths_between.result
    (c.lengths_between.ensures c.args.from.now (omega (arith, c.told-from))) in
    omega (
      arith,
      c.requires.room,
      ap (λ (pieces : List (List ℕ)). length (flat_map (λ piece. piece) pieces))
          (ordered-pieces are starts counts),
    )

pub returns-clause-end : goal.returns-clause-end
returns-clause-end c =
    let are = ordered-of c.told-from c.told-bounds c.requires.bounds c.requires.order
    c.in_order-counts.ensures.order in
    let starts = c.in_order-starts.ensures.value
    ∙ ap (λ starts. pick starts c.args.order.now) c.starts_between.ensures in
    let counts = c.in_order-counts.ensures.value
    ∙ ordered-counts are c.lengths_between.result
    (c.lengths_between.ensures c.args.from.now (omega (arith, c.told-from))) in
    c.put_pieces.ensures.end
    ∙ ap (λ (pieces : List (List ℕ)). length (flat_map (λ piece. piece) pieces))
    (ordered-pieces are starts counts)

pub returns-clause-bytes : goal.returns-clause-bytes
returns-clause-bytes c =
    let are = ordered-of c.told-from c.told-bounds c.requires.bounds c.requires.order
    c.in_order-counts.ensures.order in
    let starts = c.in_order-starts.ensures.value
    ∙ ap (λ starts. pick starts c.args.order.now) c.starts_between.ensures in
    let counts = c.in_order-counts.ensures.value
    ∙ ordered-counts are c.lengths_between.result
    (c.lengths_between.ensures c.args.from.now (omega (arith, c.told-from))) in
    c.put_pieces.ensures.bytes
    ∙ ap (flat_map (λ piece. piece)) (ordered-pieces are starts counts)

pub returns-clause-lengths : goal.returns-clause-lengths
returns-clause-lengths c =
    let are = ordered-of c.told-from c.told-bounds c.requires.bounds c.requires.order
    c.in_order-counts.ensures.order in
    c.in_order-counts.ensures.value
    ∙ ordered-counts are c.lengths_between.result
    (c.lengths_between.ensures c.args.from.now (omega (arith, c.told-from)))
