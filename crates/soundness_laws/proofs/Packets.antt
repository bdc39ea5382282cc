-- Packets by index: their lines, and their entries packet after packet.
use Prim.Native.Nat.{ℕ, ◌+◌, ◌*◌, ◌≤◌, ◌<◌, suc, zero, ◌-◌}
use Rattle.model.proofs.Entries.{nth_drop, each_piece_use, each_piece_make}
use Rattle.model.proofs.Laws.{same_test, all_make, all_use, every_use}
use Rattle.model.specs.Base.{nth, all, each_piece, every, zeroes}
use Rattle.model.specs.Image.{entries_of, count, entry, image, image_of, granules, marked}
use Rattle.model.specs.Undamaged.{entry_ok, packet_ok}
use borrow.Author.Tests.{leb-true, ltb-true, lt-ltb, le-ltb, le-leb, lt-leb}
use lib.Dec.{eqb, leb}
use lib.ListN.{take, drop}
use lib.Seq.{drop-drop}
use mathlib.Core.Bool.{Bool, true, ◌&&◌, and-true, and_assoc, false}
use mathlib.Core.List.{List, [], ◌∷◌, ◌++◌, append_assoc, append-nil}
use mathlib.Core.Path.{◌≡◌, sym, ◌∙◌, ap}
use native.Mathlib.Omega.{arith}
use Rattle.soundness_laws.specs.Tests.{packet_ok_at, entry_ok_at, Packed, entry_marked}
use Rattle.soundness_laws.proofs.Checks.{test_inside, all_append, nth_part}
use Rattle.image_laws.specs.Sized.{Sized}
use Rattle.image_laws.proofs.Bits.{mark_past}
use Rattle.image_laws.proofs.Parts.{all_cong, zero_stretch}
use Rattle.image_laws.proofs.Lengths.{packets_words}

-- ---- entries packet after packet

pub entries_more : (n : ℕ) (ps : List ℕ) → entries_of (suc n) ps ≡ entries_of n ps ++ take (nth ps (32 * n)) (drop (32 * n + 2) ps)
unfolding entries_of
entries_more zero ps = append-nil _
entries_more (suc n) ps =
    let a : 32 + 32 * n ≡ 32 * suc n = omega arith in
    let b : 32 + (32 * n + 2) ≡ 32 * suc n + 2 = omega arith in
    rw (append_assoc) (ap (λ r. take (nth ps 0) (drop 2 ps) ++ r)
    (entries_more n (drop 32 ps) ∙ rw (nth_drop 32 ps (32 * n), drop-drop (32 * n + 2) 32 ps, a, b)))

module _ (w k : ℕ) (l : List ℕ) (z : Sized w k l) where
  -- ---- one packet

  pub marked_entry : (p e x : ℕ) (r : Bool) → x ≡ nth (image_of w k l).packets (32 * p + 2 + e) → r ≡ marked (image_of w k l) x → r ≡ entry_marked (image_of w k l) p e
  unfolding entry_marked entry
  marked_entry p e x r ex q = q ∙ ap (marked (image_of w k l)) ex

  entry-in : (p e : ℕ) → e < count (image_of w k l) p → entry_ok_at (image_of w k l) p e ≡ entry_marked (image_of w k l) p e
  unfolding entry_ok_at entry_ok entry_marked granules image_of image
  entry-in p e h = rw (lt-ltb e (count (image_of w k l) p) h) (test_inside (marked (image_of w k l)) (64 * k) (entry (image_of w k l) p e) (mark_past w k l z (entry (image_of w k l) p e)))

  -- the first n of 30 places hold the entries
  entries_split : (p n : ℕ) → p < 32 → n ≡ count (image_of w k l) p → n ≤ 30 → all 30 (entry_ok_at (image_of w k l) p) ≡ (all n (entry_marked (image_of w k l) p) && zeroes (take (30 - n) (drop (32 * p + 2 + n) (image_of w k l).packets)))
  unfolding entry_ok_at entry_ok entry
  entries_split p n hp en h =
      let s : n + (30 - n) ≡ 30 = omega arith in
      (rw s at (all_append n (30 - n) (entry_ok_at (image_of w k l) p)))
      ∙ rw (all_cong n _ _ (λ e q. entry-in p e (omega arith)), zero_stretch (image_of w k l).packets (32 * p + 2 + n) (30 - n) (omega (arith, packets_words z)))
      (ap (λ b. all n (entry_marked (image_of w k l) p) && b) (all_cong (30 - n) _ _ (λ i q.
      let y : 32 * p + 2 + (n + i) ≡ 32 * p + 2 + n + i = omega arith in
      rw (le-ltb (n + i) (count (image_of w k l) p) (omega arith), y))))

  pub packet_is : (p : ℕ) → packet_ok_at (image_of w k l) p ≡ every (leb (count (image_of w k l) p) 30 ∷ eqb (nth (image_of w k l).packets (32 * p + 1)) 0 ∷ all 30 (entry_ok_at (image_of w k l) p) ∷ [])
  unfolding packet_ok_at packet_ok entry_ok_at count entry every
  packet_is p =
      let o : 32 * p + 0 ≡ 32 * p = omega arith in
      let ps : List ℕ = (image_of w k l).packets in
      rw (nth_part 32 (32 * p) ps 0 (omega arith), o, nth_part 32 (32 * p) ps 1 (omega arith))
      (ap (λ b. every (leb (nth ps (32 * p)) 30 ∷ eqb (nth ps (32 * p + 1)) 0 ∷ b ∷ []))
      (all_cong 30 _ _ (λ e h. let y : 32 * p + (2 + e) ≡ 32 * p + 2 + e = omega arith in rw (nth_part 32 (32 * p) ps (2 + e) (omega arith), y))))

  module _ (p n : ℕ) (hp : p < 32) (en : n ≡ nth (image_of w k l).packets (32 * p)) where
    pub packet_many : 30 < n → false ≡ packet_ok_at (image_of w k l) p
    unfolding every count
    packet_many h = rw (packet_is p, ← en, lt-leb n 30 h)

    pub packet_all : (y : ℕ) (r s : Bool) → n ≤ 30 → y ≡ nth (image_of w k l).packets (32 * p + 1) → r ≡ all n (entry_marked (image_of w k l) p) → s ≡ zeroes (take (32 * p + 32 - (32 * p + 2 + n)) (drop (32 * p + 2 + n) (image_of w k l).packets))
        → ((eqb y 0 && r) && s) ≡ packet_ok_at (image_of w k l) p
    unfolding every count
    packet_all y r s h ey er es =
        let o : 32 * p + 32 - (32 * p + 2 + n) ≡ 30 - n = omega arith in
        rw (packet_is p, ← en, le-leb n 30 h, ← ey, entries_split p n hp en h, ← er, es, o) (simp (and_assoc, and-true))

  -- ---- all packets

  below_end : (p e : ℕ) → e < count (image_of w k l) p → entry_ok_at (image_of w k l) p e ≡ true → entry (image_of w k l) p e < granules (image_of w k l)
  unfolding entry_ok_at entry_ok
  below_end p e h q = ltb-true _ _ (every_use _ (rw (lt-ltb e (count (image_of w k l) p) h) at q) 0)

  pub all_packets : each_piece 32 32 (packet_ok (image_of w k l)) (image_of w k l).packets ≡ all 32 (packet_ok_at (image_of w k l))
  unfolding packet_ok_at
  all_packets =
      same_test _ _ (λ e. all_make 32 _ (each_piece_use 32 32 (packet_ok (image_of w k l)) (image_of w k l).packets e))
      (λ e. each_piece_make 32 32 (packet_ok (image_of w k l)) (image_of w k l).packets (all_use 32 _ e))

  pub packed : all 32 (packet_ok_at (image_of w k l)) ≡ true → Packed (image_of w k l)
  packed h =
      let ok = all_use 32 (packet_ok_at (image_of w k l)) h in
      let few : (p : ℕ) → p < 32 → count (image_of w k l) p ≤ 30 = λ p hp. leb-true _ _ (every_use _ (sym (packet_is p) ∙ ok p hp) 0) in
      record { counts = few; below = λ p e hp he. below_end p e he (all_use 30 _ (every_use _ (sym (packet_is p) ∙ ok p hp) 2) e (omega (arith, few p hp))) }
