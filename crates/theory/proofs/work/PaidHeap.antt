-- What is done and owed goes by marked objects: a heap in which objects keep their numbers of links changes neither.
use mathlib.Core.Path.{◌≡◌, refl, ap}
use mathlib.Core.Bool.{Bool, true, false, cond}
use mathlib.Core.List.{List}
use Prim.Native.Nat.{ℕ, ◌+◌, ◌*◌, ◌<◌}
use native.Mathlib.Omega.{arith}
use Rattle.model.specs.Base.{bit}
use Rattle.model.specs.Image.{Image}
use Rattle.model.proofs.Counts.{sum_same}
use Rattle.model.proofs.Laws.{every_use}
use Rattle.theory.specs.Lines.{Start, Lines, none, one, count_in, entry_in}
use Rattle.theory.specs.New.{reheaped}
use Rattle.theory.specs.Work.{links_in, mark_paid, is_cleaned, clean_paid, marks_paid, cleans_paid, cards_paid, work_done, entry_owed, packet_owed, hand_owed, packets_owed, hands_owed, work_owed}
use Rattle.theory.proofs.work.PaidSections.{SameWork}
use Rattle.theory.proofs.work.PaidReach.{no_links}

-- what counts where a test passes
cond_same : (b : Bool) (x y : ℕ) → (b ≡ true → x ≡ y) → ◌≡◌ {A = ℕ} (cond b x 0) (cond b y 0)
cond_same true x y f = f refl
cond_same false x y f = refl

module _ (m : Image) (o : Lines m) (hs ss gs : List ℕ) (same : (x : ℕ) → Start m x → links_in hs x ≡ links_in m.heap x) (nil : links_in hs 0 ≡ 0) where
  on_marked : (x : ℕ) → bit m.width m.marks x ≡ true → links_in hs x ≡ links_in m.heap x
  on_marked x k = same x (o.marks_ok.on_starts x k)

  marks_stay : marks_paid (reheaped m hs ss gs) ≡ marks_paid m
  unfolding marks_paid mark_paid
  marks_stay = sum_same _ _ (64 * m.k) (λ x h. cond_same (bit m.width m.marks x) _ _ (λ k. ap (λ y. 2 + y) (on_marked x k)))

  cleans_stay : cleans_paid (reheaped m hs ss gs) ≡ cleans_paid m
  unfolding cleans_paid clean_paid is_cleaned
  cleans_stay = sum_same _ _ (64 * m.k) (λ x h. cond_same (is_cleaned m.width m.marks m.cards m.tracers x) _ _ (λ k. ap (λ y. 1 + y) (on_marked x (every_use _ k 0))))

  entry_stay : (p e : ℕ) → p < 32 → e < count_in m.packets p → links_in hs (entry_in m.packets p e) ≡ links_in m.heap (entry_in m.packets p e)
  entry_stay p e hp he = on_marked _ (o.packets_ok.full p e _ (record { is_packet = hp; below = he; is_entry = refl }))

  packets_stay : packets_owed hs m.packets m.tracers ≡ packets_owed m.heap m.packets m.tracers
  unfolding packets_owed packet_owed entry_owed
  packets_stay = sum_same _ _ 32 (λ p hp. sum_same _ _ (count_in m.packets p) (λ e he. rw (entry_stay p e hp he)))

  hands_stay : hands_owed hs m.tracers ≡ hands_owed m.heap m.tracers
  unfolding hands_owed hand_owed
  hands_stay = sum_same _ _ 8 (λ t ht. elim (o.tracers_ok.hands.pair t ht) [
    | none e f ↦ rw (e, nil, no_links o)
    | one nz (k, l) ↦ rw (on_marked _ k)
  ])

  pub reheap_work : SameWork m (reheaped m hs ss gs)
  unfolding work_done work_owed cards_paid
  reheap_work = record { same_done = omega (arith, marks_stay, cleans_stay); same_owed = omega (arith, packets_stay, hands_stay) }
