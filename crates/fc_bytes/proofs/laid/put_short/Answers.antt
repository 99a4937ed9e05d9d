use Rattle.std.proofs.Common.{◌++◌, ◌+◌, ◌-◌, ◌∙◌, ◌≡◌, ◌≤◌, ap, arith, drop, length, take}
use Rattle.std.{proofs.lemmas.List.{Elements.{All-get_or}, length-drop, length-take-le}, specs.List.{slice_range}}
use Rattle.fc_bytes.proofs.LaidBytes.{all-joined, all-put, ArePieces, joined-long, joined-put, joined-room, pieces-of}
use Rattle.fc_bytes.proofs.laid.put_short.Goals as goal

pub put-requires : goal.put-requires
put-requires c =
    let are = pieces-of c.told-from c.told-starts c.told-counts c.requires.inside in
    let kept = c.loop-place.invariant in
    let start = c.from-start.result in
    let stop = c.requires.inside c.loop-place.place c.loop-place-test.true in
    let sixteen : start + 16 - start ≡ 16 = omega arith in
    let long : length (slice_range c.args.from.now start (start + 16)) ≡ 16 =
    length-take-le (start + 16 - start) (drop start c.args.from.now) (omega
    (arith, length-drop start c.args.from.now, c.told-from, stop, c.from-start.ensures))
    ∙ sixteen in
    let room = joined-room are c.loop-place-test.true c.requires.room in
    record { room = omega (arith, long, kept.long, kept.at_end, room) }

pub loop-place-preserved : goal.loop-place-preserved
loop-place-preserved c =
    let are = pieces-of c.told-from c.told-starts c.told-counts c.requires.inside in
    let kept = c.loop-place.invariant in
    let start = c.from-start.result in
    let count = c.from-count.result in
    let end = c.loop-place.end in
    let rest = drop start c.args.from.now in
    let front = take end c.loop-place.all in
    let stop = c.requires.inside c.loop-place.place c.loop-place-test.true in
    let sixteen : start + 16 - start ≡ 16 = omega arith in
    let long : length (slice_range c.args.from.now start (start + 16)) ≡ 16 =
    length-take-le (start + 16 - start) rest (omega
    (arith, length-drop start c.args.from.now, c.told-from, stop, c.from-start.ensures))
    ∙ sixteen in
    let few = All-get_or (λ count. count ≤ 16) c.args.counts.now c.loop-place.place 0
    (omega (arith, c.loop-place-test.true, c.told-counts)) c.requires.short in
    let room = joined-room are c.loop-place-test.true c.requires.room in
    let after : end + 16 ≡ c.put.result = omega (arith, c.put.ensures.end, long) in
    let put = all-put c.loop-place.all c.args.from.now c.put.new.text end start count 16
    (omega (arith, kept.long, kept.at_end, room)) (omega (arith, few, c.from-count.ensures))
    (ap (λ end. take end c.put.new.text) after ∙ c.put.ensures.text
    ∙ ap (λ count. front ++ take count rest) sixteen) in
    record {
      long = c.put.ensures.size ∙ kept.long;
      at_end = omega
          (arith, kept.at_end, c.from-count.ensures, joined-long are c.loop-place-test.true);
      so_far = joined-put are c.loop-place-test.true front (take (end + count) c.put.new.text)
          kept.so_far
          (put ∙ (λ i. front ++ take (c.from-count.ensures i) (drop (c.from-start.ensures i) c.args.from.now)));
    }

-- all pieces are put
whole : (c : goal.After-loop-place) → ArePieces c.args.from.now c.args.starts.now c.args.counts.now
whole c = pieces-of c.told-from c.told-starts c.told-counts c.requires.inside

pub returns-clause-end : goal.returns-clause-end
returns-clause-end c =
    c.loop-place.invariant.at_end
    ∙ ap length (all-joined (whole c) c.loop-place.place c.loop-place-test.false)

pub returns-clause-bytes : goal.returns-clause-bytes
returns-clause-bytes c =
    c.loop-place.invariant.so_far ∙ all-joined (whole c) c.loop-place.place c.loop-place-test.false
