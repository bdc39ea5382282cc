use mathlib.Core.Path.{◌≡◌, refl, ap, ◌∙◌}
use mathlib.Core.Bool.{false}
use Prim.Native.Nat.{ℕ}
use lib.Dec.{eqb}
use borrow.Author.Tests.{eqb-false}
use Rattle.model.specs.Image.{image, image_of}
use Rattle.request_laws.specs.Kind.{kind_number}
use Rattle.request_laws.specs.declared.Kind.{Kind}
use Rattle.runs_laws.specs.declared.Free.{Free}
use Rattle.show_store_laws.proofs.Perform.{new_fields, load_fields, store_fields, barrier_fields, hand_fields, drop_fields, read_fields, write_fields, scan_fields, trace_fields, clean_fields, undirty_fields, new_dispatched, load_dispatched, store_dispatched, barrier_dispatched, hand_dispatched, drop_dispatched, read_dispatched, write_dispatched, begin_dispatched, scan_dispatched, trace_dispatched, clean_dispatched, due_dispatched, undirty_dispatched, finish_dispatched, free_left}
use Rattle.dispatch.proofs.perform.dispatch.Goals as goal
use Rattle.dispatch.proofs.perform.dispatch.Goals.{in-Load, in-Store, in-Barrier, in-Hand, in-Drop, in-Read, in-Write, in-Begin, in-Scan, in-Trace, in-Clean, in-Due, in-Undirty}

-- the number of a kind that is known
known : {n : ℕ} {kind x : Kind} → n ≡ kind_number kind → kind ≡ x → n ≡ kind_number x
known e f = e ∙ ap kind_number f

-- it is not that of new or finish
other : {n : ℕ} (x : ℕ) → n ≡ x → eqb x 1 ≡ false → eqb x 13 ≡ false → (n ≡ 1 → ⊥) × (n ≡ 13 → ⊥)
other x e f h = rw e (eqb-false x 1 f, eqb-false x 13 h)

pub new-requires-clause-p_bound : goal.new-requires-clause-p_bound
new-requires-clause-p_bound g c = let q = c.requires in (new_fields _ q.passed (known q.named c.in-New.is)).0

pub new-requires-clause-p_value : goal.new-requires-clause-p_value
new-requires-clause-p_value g c = let q = c.requires in (new_fields _ q.passed (known q.named c.in-New.is)).1

pub load-answer-requires-clause-p_bound : goal.load-answer-requires-clause-p_bound
load-answer-requires-clause-p_bound g c = let q = c.requires in (load_fields _ q.passed (known q.named c.in-Load.is)).0

pub load-answer-requires-clause-p_value : goal.load-answer-requires-clause-p_value
load-answer-requires-clause-p_value g c = let q = c.requires in (load_fields _ q.passed (known q.named c.in-Load.is)).1

pub store-answer-requires-clause-p_bound : goal.store-answer-requires-clause-p_bound
store-answer-requires-clause-p_bound g c = let q = c.requires in (store_fields _ q.passed (known q.named c.in-Store.is)).0

pub store-answer-requires-clause-p_value : goal.store-answer-requires-clause-p_value
store-answer-requires-clause-p_value g c = let q = c.requires in (store_fields _ q.passed (known q.named c.in-Store.is)).1

pub barrier-answer-requires-clause-p_bound : goal.barrier-answer-requires-clause-p_bound
barrier-answer-requires-clause-p_bound g c = let q = c.requires in barrier_fields _ q.passed (known q.named c.in-Barrier.is)

pub hand-answer-requires-clause-p_bound : goal.hand-answer-requires-clause-p_bound
hand-answer-requires-clause-p_bound g c = let q = c.requires in (hand_fields _ q.passed (known q.named c.in-Hand.is)).0

pub hand-answer-requires-clause-p_value : goal.hand-answer-requires-clause-p_value
hand-answer-requires-clause-p_value g c = let q = c.requires in (hand_fields _ q.passed (known q.named c.in-Hand.is)).1

pub drop-answer-requires-clause-p_bound : goal.drop-answer-requires-clause-p_bound
drop-answer-requires-clause-p_bound g c = let q = c.requires in (drop_fields _ q.passed (known q.named c.in-Drop.is)).0

pub drop-answer-requires-clause-p_value : goal.drop-answer-requires-clause-p_value
drop-answer-requires-clause-p_value g c = let q = c.requires in (drop_fields _ q.passed (known q.named c.in-Drop.is)).1

pub read-answer-requires-clause-p_bound : goal.read-answer-requires-clause-p_bound
read-answer-requires-clause-p_bound g c = let q = c.requires in (read_fields _ q.passed (known q.named c.in-Read.is)).0

pub read-answer-requires-clause-p_value : goal.read-answer-requires-clause-p_value
read-answer-requires-clause-p_value g c = let q = c.requires in (read_fields _ q.passed (known q.named c.in-Read.is)).1

pub write-answer-requires-clause-p_bound : goal.write-answer-requires-clause-p_bound
write-answer-requires-clause-p_bound g c = let q = c.requires in (write_fields _ q.passed (known q.named c.in-Write.is)).0

pub write-answer-requires-clause-p_value : goal.write-answer-requires-clause-p_value
write-answer-requires-clause-p_value g c = let q = c.requires in (write_fields _ q.passed (known q.named c.in-Write.is)).1

pub scan-answer-requires-clause-t_bound : goal.scan-answer-requires-clause-t_bound
scan-answer-requires-clause-t_bound g c = let q = c.requires in scan_fields _ q.passed (known q.named c.in-Scan.is)

pub trace-answer-requires-clause-t_bound : goal.trace-answer-requires-clause-t_bound
trace-answer-requires-clause-t_bound g c = let q = c.requires in trace_fields _ q.passed (known q.named c.in-Trace.is)

pub clean-answer-requires-clause-t_bound : goal.clean-answer-requires-clause-t_bound
clean-answer-requires-clause-t_bound g c = let q = c.requires in clean_fields _ q.passed (known q.named c.in-Clean.is)

pub undirty-answer-requires-clause-c_lt_k : goal.undirty-answer-requires-clause-c_lt_k
unfolding image_of image
undirty-answer-requires-clause-c_lt_k g c = let q = c.requires in undirty_fields _ q.passed (known q.named c.in-Undirty.is)

pub returns-in-New-clause-im_after : goal.returns-in-New-clause-im_after
returns-in-New-clause-im_after g c = let q = c.requires in new_dispatched _ q.passed (known q.named c.in-New.is) _ c.new.ensures.im_after

pub returns-in-Finish-clause-im_after : goal.returns-in-Finish-clause-im_after
returns-in-Finish-clause-im_after g c = let q = c.requires in finish_dispatched _ q.passed (known q.named c.in-Finish.is) _ c.finish.ensures.im_after

pub returns-clause-im_after : goal.returns-clause-im_after
returns-clause-im_after g c =
    let q = c.requires in
    elim c.match-kind.branch [
      | in-Load w ↦ rw (w.answer-is, w.im-is) (load_dispatched _ q.passed (known q.named w.in-Load.is) _ w.load-answer.ensures)
      | in-Store w ↦ rw (w.answer-is, w.im-is) (store_dispatched _ q.passed (known q.named w.in-Store.is) _ w.store-answer.ensures)
      | in-Barrier w ↦ rw (w.answer-is, w.im-is) (barrier_dispatched _ q.passed (known q.named w.in-Barrier.is) _ w.barrier-answer.ensures)
      | in-Hand w ↦ rw (w.answer-is, w.im-is) (hand_dispatched _ q.passed (known q.named w.in-Hand.is) _ w.hand-answer.ensures)
      | in-Drop w ↦ rw (w.answer-is, w.im-is) (drop_dispatched _ q.passed (known q.named w.in-Drop.is) _ w.drop-answer.ensures)
      | in-Read w ↦ rw (w.answer-is, w.im-is) (read_dispatched _ q.passed (known q.named w.in-Read.is) _ w.read-answer.ensures)
      | in-Write w ↦ rw (w.answer-is, w.im-is) (write_dispatched _ q.passed (known q.named w.in-Write.is) _ w.write-answer.ensures)
      | in-Begin w ↦ rw (w.answer-is, w.im-is) (begin_dispatched _ q.passed (known q.named w.in-Begin.is) _ w.begin-answer.ensures)
      | in-Scan w ↦ rw (w.answer-is, w.im-is) (scan_dispatched _ q.passed (known q.named w.in-Scan.is) _ w.scan-answer.ensures)
      | in-Trace w ↦ rw (w.answer-is, w.im-is) (trace_dispatched _ q.passed (known q.named w.in-Trace.is) _ w.trace-answer.ensures)
      | in-Clean w ↦ rw (w.answer-is, w.im-is) (clean_dispatched _ q.passed (known q.named w.in-Clean.is) _ w.clean-answer.ensures)
      | in-Due w ↦ rw (w.answer-is, w.im-is) (due_dispatched _ q.passed (known q.named w.in-Due.is) _ (w.due-answer.ensures _ (ap (λ (f : Free). f.usable) q.free_value)))
      | in-Undirty w ↦ rw (w.answer-is, w.im-is) (undirty_dispatched _ q.passed (known q.named w.in-Undirty.is) _ w.undirty-answer.ensures)
    ]

pub returns-clause-free_value_2 : goal.returns-clause-free_value_2
returns-clause-free_value_2 g c =
    let q = c.requires in
    let o : (c.args.r.kind ≡ 1 → ⊥) × (c.args.r.kind ≡ 13 → ⊥) = elim c.match-kind.branch [
      | in-Load w ↦ other 2 (known q.named w.in-Load.is) refl refl
      | in-Store w ↦ other 3 (known q.named w.in-Store.is) refl refl
      | in-Barrier w ↦ other 4 (known q.named w.in-Barrier.is) refl refl
      | in-Hand w ↦ other 5 (known q.named w.in-Hand.is) refl refl
      | in-Drop w ↦ other 6 (known q.named w.in-Drop.is) refl refl
      | in-Read w ↦ other 7 (known q.named w.in-Read.is) refl refl
      | in-Write w ↦ other 8 (known q.named w.in-Write.is) refl refl
      | in-Begin w ↦ other 9 (known q.named w.in-Begin.is) refl refl
      | in-Scan w ↦ other 10 (known q.named w.in-Scan.is) refl refl
      | in-Trace w ↦ other 11 (known q.named w.in-Trace.is) refl refl
      | in-Clean w ↦ other 12 (known q.named w.in-Clean.is) refl refl
      | in-Due w ↦ other 14 (known q.named w.in-Due.is) refl refl
      | in-Undirty w ↦ other 15 (known q.named w.in-Undirty.is) refl refl
    ] in
    free_left _ _ c.args.r q.undamaged o.0 o.1 _ _ (returns-clause-im_after g c) _ q.free_value
