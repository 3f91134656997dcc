-- `changes::walk` meets its contract: what is written and the report of the handles that are left are the whole report.
use native.Mathlib.Omega.{arith}
use Rattle.changes.proofs.Walks.{walk_none, first_next, second_next, both_next, each_at, room_left, room_both, walk_first, walk_second, walk_both, walk_all, less, even}
use Rattle.changes.proofs.walk.Goals as goal

pub loop-i-init : goal.loop-i-init
loop-i-init c = let p = c.requires in walk_none _ _ _ _ _ p.0.0 p.0.1 p.1

pub overflow_add-i : goal.overflow_add-i
overflow_add-i c = omega (arith, c.loop-i.invariant.first_few, c.loop-i.invariant.second_few, c.loop-i.invariant.first.few, c.loop-i.invariant.second.few)

pub overflow_add-a : goal.overflow_add-a
overflow_add-a c = omega (arith, c.loop-i.invariant.first.few, c.loop-i.invariant.second.few)

pub serial_at-p-requires : goal.serial_at-p-requires
serial_at-p-requires c = c.loop-i.invariant.first.few

pub serial_at-q-requires : goal.serial_at-q-requires
serial_at-q-requires c = c.loop-i.invariant.second.few

pub bounds-a-i : goal.bounds-a-i
bounds-a-i c = first_next _ _ _ _ _ _ _ _ _ c.loop-i.invariant (less c.serial_at-p.ensures c.serial_at-q.ensures c.if-p-q.true)

pub put_handle-n-requires : goal.put_handle-n-requires
put_handle-n-requires c =
    let w = c.loop-i.invariant in
    ((omega arith, each_at w.first.each _ (first_next _ _ _ _ _ _ _ _ _ c.loop-i.invariant (less c.serial_at-p.ensures c.serial_at-q.ensures c.if-p-q.true))), (room_left _ _ _ _ _ _ _ _ _ c.loop-i.invariant (omega arith), omega (arith, w.size, w.whole_room)))

pub loop-i-smaller-then-p-q : goal.loop-i-smaller-then-p-q
loop-i-smaller-then-p-q c = let k = first_next _ _ _ _ _ _ _ _ _ c.loop-i.invariant (less c.serial_at-p.ensures c.serial_at-q.ensures c.if-p-q.true) in omega (arith, k, c.loop-i.invariant.second_few)

pub loop-i-preserved-then-p-q : goal.loop-i-preserved-then-p-q
loop-i-preserved-then-p-q c = walk_first _ _ _ _ _ _ _ _ _ c.loop-i.invariant (less c.serial_at-p.ensures c.serial_at-q.ensures c.if-p-q.true) _ _ c.put_handle-n.ensures.0 c.put_handle-n.ensures.1

pub bounds-b-j : goal.bounds-b-j
bounds-b-j c = second_next _ _ _ _ _ _ _ _ _ c.loop-i.invariant (less c.serial_at-q.ensures c.serial_at-p.ensures c.if-q-p.true)

pub put_handle-n-requires-then-q-p : goal.put_handle-n-requires-then-q-p
put_handle-n-requires-then-q-p c =
    let w = c.loop-i.invariant in
    ((omega arith, each_at w.second.each _ (second_next _ _ _ _ _ _ _ _ _ c.loop-i.invariant (less c.serial_at-q.ensures c.serial_at-p.ensures c.if-q-p.true))), (room_left _ _ _ _ _ _ _ _ _ c.loop-i.invariant (omega arith), omega (arith, w.size, w.whole_room)))

pub loop-i-smaller-then-q-p : goal.loop-i-smaller-then-q-p
loop-i-smaller-then-q-p c = let k = second_next _ _ _ _ _ _ _ _ _ c.loop-i.invariant (less c.serial_at-q.ensures c.serial_at-p.ensures c.if-q-p.true) in omega (arith, k, c.loop-i.invariant.first_few)

pub loop-i-preserved-then-q-p : goal.loop-i-preserved-then-q-p
loop-i-preserved-then-q-p c = walk_second _ _ _ _ _ _ _ _ _ c.loop-i.invariant (less c.serial_at-q.ensures c.serial_at-p.ensures c.if-q-p.true) _ _ c.put_handle-n-then-q-p.ensures.0 c.put_handle-n-then-q-p.ensures.1

pub bounds-a-i-in-loop-i : goal.bounds-a-i-in-loop-i
bounds-a-i-in-loop-i c = (both_next _ _ _ _ _ _ _ _ _ c.loop-i.invariant (even c.serial_at-p.ensures c.serial_at-q.ensures c.if-p-q.false c.if-q-p.false) (omega arith)).0

pub bounds-b-j-in-loop-i : goal.bounds-b-j-in-loop-i
bounds-b-j-in-loop-i c = (both_next _ _ _ _ _ _ _ _ _ c.loop-i.invariant (even c.serial_at-p.ensures c.serial_at-q.ensures c.if-p-q.false c.if-q-p.false) (omega arith)).1

pub put_handles-n-requires : goal.put_handles-n-requires
put_handles-n-requires c =
    let w = c.loop-i.invariant in
    let k = both_next _ _ _ _ _ _ _ _ _ c.loop-i.invariant (even c.serial_at-p.ensures c.serial_at-q.ensures c.if-p-q.false c.if-q-p.false) (omega arith) in
    (((each_at w.first.each _ k.0, each_at w.second.each _ k.1), w.first.small), (room_both _ _ _ _ _ _ _ _ _ c.loop-i.invariant k.0 k.1, omega (arith, w.size, w.whole_room)))

pub loop-i-smaller : goal.loop-i-smaller
loop-i-smaller c = let k = both_next _ _ _ _ _ _ _ _ _ c.loop-i.invariant (even c.serial_at-p.ensures c.serial_at-q.ensures c.if-p-q.false c.if-q-p.false) (omega arith) in omega (arith, k.0, k.1)

pub loop-i-preserved : goal.loop-i-preserved
loop-i-preserved c = walk_both _ _ _ _ _ _ _ _ _ c.loop-i.invariant (even c.serial_at-p.ensures c.serial_at-q.ensures c.if-p-q.false c.if-q-p.false) (omega arith) _ _ c.put_handles-n.ensures.0 c.put_handles-n.ensures.1

pub shape_of-out : goal.shape_of-out
shape_of-out c = c.loop-i.invariant.size

pub returns : goal.returns
returns c = walk_all _ _ _ _ _ _ _ _ _ c.loop-i.invariant (omega arith)
