use Rattle.std.proofs.Common.{◌++◌, ◌+◌, ◌-◌, ◌∙◌, ◌≡◌, ap, arith, drop, length, take}
use Rattle.std.{proofs.lemmas.List.{length-drop, length-take-le}, specs.List.{slice_range}}
use Rattle.fc_bytes.proofs.LaidBytes.{all-joined, joined-long, joined-put, joined-room, pieces-of}
use Rattle.fc_bytes.proofs.laid.put_all.Goals as goal

pub put-end-requires : goal.put-end-requires
put-end-requires c =
    let are = pieces-of c.told-from c.told-starts c.told-counts c.requires.inside in
    let kept = c.loop-place.invariant in
    let start = c.from-start.result in
    let count = c.from-count.result in
    let stop = c.requires.inside c.loop-place.place c.loop-place-test.true in
    let same : start + count - start ≡ count = omega arith in
    let long : length (slice_range c.args.from.now start (start + count)) ≡ count =
    length-take-le (start + count - start) (drop start c.args.from.now) (omega (
      arith,
      length-drop start c.args.from.now,
      c.told-from,
      stop,
      c.from-start.ensures,
      c.from-count.ensures,
    ))
    ∙ same in
    let room = joined-room are c.loop-place-test.true c.requires.room in
    record { room = omega (arith, long, kept.long, kept.at_end, room, c.from-count.ensures) }

pub loop-place-preserved : goal.loop-place-preserved
loop-place-preserved c =
    let are = pieces-of c.told-from c.told-starts c.told-counts c.requires.inside in
    let kept = c.loop-place.invariant in
    let start = c.from-start.result in
    let count = c.from-count.result in
    let rest = drop start c.args.from.now in
    let front = take c.loop-place.end c.loop-place.all in
    let stop = c.requires.inside c.loop-place.place c.loop-place-test.true in
    let same : start + count - start ≡ count = omega arith in
    let long : length (slice_range c.args.from.now start (start + count)) ≡ count =
    length-take-le (start + count - start) rest (omega (
      arith,
      length-drop start c.args.from.now,
      c.told-from,
      stop,
      c.from-start.ensures,
      c.from-count.ensures,
    ))
    ∙ same in
    record {
      long = c.put-end.ensures.size ∙ kept.long;
      at_end = omega (
        arith,
        c.put-end.ensures.end,
        long,
        kept.at_end,
        c.from-count.ensures,
        joined-long are c.loop-place-test.true,
      );
      so_far = joined-put are c.loop-place-test.true front
          (take c.put-end.result c.put-end.new.text) kept.so_far
          (c.put-end.ensures.text ∙ ap (λ count. front ++ take count rest) same
          ∙ (λ i. front ++ take (c.from-count.ensures i) (drop (c.from-start.ensures i) c.args.from.now)));
    }

pub returns-clause-end : goal.returns-clause-end
returns-clause-end c =
    let are = pieces-of c.told-from c.told-starts c.told-counts c.requires.inside in
    c.loop-place.invariant.at_end ∙ ap length (all-joined are c.loop-place.place c.loop-place-test.false)

pub returns-clause-bytes : goal.returns-clause-bytes
returns-clause-bytes c =
    let are = pieces-of c.told-from c.told-starts c.told-counts c.requires.inside in
    c.loop-place.invariant.so_far ∙ all-joined are c.loop-place.place c.loop-place-test.false
