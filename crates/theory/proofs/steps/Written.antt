-- A word of an object past its first two is written: objects and runs fill the heap as before, and no other word of an object changes.
use mathlib.Core.Path.{◌≡◌, ap, ◌∙◌, sym, subst}
use mathlib.Core.Logic.{inl, inr}
use mathlib.Core.Bool.{Bool, true}
use mathlib.Core.List.{List, [], ◌∷◌, ◌++◌}
use Prim.Native.Nat.{ℕ, zero, suc, ◌+◌, ◌*◌, ◌-◌, ◌≤◌, ◌<◌}
use native.Mathlib.Decide.{ℕ_discrete, dec_lt}
use native.Mathlib.Omega.{arith}
use lib.ListN.{length, set, length-drop}
use lib.Seq.{set-append_left, drop-set-add}
use Rattle.model.specs.Base.{nth, put}
use Rattle.model.specs.Image.{Image, granules, word, is_start, size, links, link, with_heap, set_word, first_run}
use Rattle.model.proofs.Laws.{false≢, nth_out, nth_put_other, length_put}
use Rattle.model.proofs.Entries.{nth_drop}
use Rattle.theory.specs.Heap.{Filled, f_end, f_object, f_run, run_words, Laid}
use Rattle.theory.specs.Lines.{NilOr, Start, Lines}
use Rattle.theory.proofs.heap.Facts.{start_pos, laid_of, heap_filled_of, some_card}
use Rattle.theory.proofs.lines.Lines.{put_heap}
use Rattle.theory.proofs.heap.Lists.{nth_head, length_run, head_behind}
use Rattle.theory.proofs.lines.Packets.{Wrote, nth_put}
use Rattle.theory.proofs.heap.Walk.{fill_make, same_place}

put_right : (l r : List ℕ) (i v n : ℕ) → length l ≡ n → put (l ++ r) (n + i) v ≡ l ++ put r i v
unfolding put
put_right [] r i v n e = let z : n + i ≡ i = omega arith in ap (λ j. set r j v) z
put_right (x ∷ l) r i v zero e = absurd (omega arith)
put_right (x ∷ l) r i v (suc n) e = let z : suc n + i ≡ suc (n + i) = omega arith in ap (λ j. set (x ∷ l ++ r) j v) z ∙ ap (λ q. x ∷ q) (put_right l r i v n (omega arith))

-- ---- the heap stays filled

-- word x of the object at h is written, in the words from granule g on
filled_put : {st : ℕ → Bool} {g : ℕ} {ws : List ℕ} {next : ℕ} {b : Bool} → Filled st g ws next b → (h x v : ℕ) → g ≤ h → st h ≡ true → 2 ≤ x → x < 4 * nth ws (4 * (h - g)) → Filled st g (put ws (4 * (h - g) + x) v) next b
unfolding put
filled_put {g = g} f_end h x v p t a l = absurd (omega (arith, nth_out [] (4 * (h - g)) (omega arith)))
filled_put {g = g} (f_object s ws rest q o ba f) h x v p t a l =
    elim (ℕ_discrete h g) [
      | yes e ↦ let z : 4 * (h - g) ≡ 0 = omega arith in
          let w : x < 4 * s = rw (z, nth_head s (ws ++ rest)) at l in
          let j : 4 * (h - g) + x ≡ suc (x - 1) = omega arith in
          rw (j, set-append_left ws rest (x - 1) v (omega (arith, o.long)))
          (f_object s (put ws (x - 1) v) rest q
          (record { long = simp length_put o.long; few = o.few; links_fit = rw (nth_put_other ws (x - 1) 0 v (omega arith)) o.links_fit }) ba f)
      | no e ↦ elim (dec_lt h (g + s)) [
        | yes d ↦ false≢ (sym (ba h (omega arith) d) ∙ t)
        | no d ↦ let j : 4 * (h - g) + x ≡ 4 * s + (4 * (h - (g + s)) + x) = omega arith in
            rw (j, put_right (s ∷ ws) rest (4 * (h - (g + s)) + x) v (4 * s) o.long)
            (f_object s ws (put rest (4 * (h - (g + s)) + x) v) q o ba
            (filled_put f h x v (omega arith) t a (rw (head_behind g s h (s ∷ ws) rest o.long (omega arith)) at l)))
      ]
    ]
filled_put {g = g} (f_run n next rest q ba f) h x v p t a l =
    elim (ℕ_discrete h g) [
      | yes e ↦ false≢ (sym q ∙ (rw e at t))
      | no e ↦ elim (dec_lt h (g + suc n)) [
        | yes d ↦ false≢ (sym (ba h (omega arith) d) ∙ t)
        | no d ↦ let j : 4 * (h - g) + x ≡ 4 * suc n + (4 * (h - (g + suc n)) + x) = omega arith in
            rw (j, put_right (run_words n next) rest (4 * (h - (g + suc n)) + x) v (4 * suc n) (length_run n next))
            (f_run n next (put rest (4 * (h - (g + suc n)) + x) v) q ba
            (filled_put f h x v (omega arith) t a (rw (head_behind g (suc n) h (run_words n next) rest (length_run n next) (omega arith)) at l)))
      ]
    ]

-- ---- the words of objects

module _ {m : Image} (o : Lines m) (g x v : ℕ) (sg : is_start m g ≡ true) (hx : 2 ≤ x) (hx' : x < 4 * size m g) where
  L : Laid m
  L = laid_of o

  -- a word of an object past its first two is the first or second word or a link of an object only as that link
  inner : (h y : ℕ) → is_start m h ≡ true → y < 2 + links m h → 4 * h + y ≡ 4 * g + x → (h ≡ g) × (y ≡ x)
  inner h y sh hy e = same_place m L h g y x sh sg (omega (arith, L.inside h sh)) hx' e

  pub size_written : (h : ℕ) → is_start m h ≡ true → size (set_word m g x v) h ≡ size m h
  unfolding set_word with_heap size word
  size_written h sh = nth_put_other m.heap (4 * g + x) (4 * h + 0) v (λ e. omega (arith, inner h 0 sh (omega arith) e))

  pub links_written : (h : ℕ) → is_start m h ≡ true → links (set_word m g x v) h ≡ links m h
  unfolding set_word with_heap links word
  links_written h sh = nth_put_other m.heap (4 * g + x) (4 * h + 1) v (λ e. omega (arith, inner h 1 sh (omega arith) e))

  pub link_written : (h i : ℕ) → is_start m h ≡ true → i < links m h → Wrote ((h ≡ g) × (2 + i ≡ x)) (link (set_word m g x v) h i) v (link m h i)
  unfolding set_word with_heap link word
  link_written h i sh l =
      elim (nth_put m.heap (4 * g + x) (4 * h + (2 + i)) v (omega (arith, L.inside g sg, L.heap_length))) [
        | inl (e, w) ↦ inl (inner h (2 + i) sh (omega arith) e, w)
        | inr (n, w) ↦ inr ((λ e. n (omega (arith, e.0, e.1))), w)
      ]

  -- v is a start or nil where a link is written
  pub word_lines : (x < 2 + links m g → NilOr (Start m) v) → Lines (set_word m g x v)
  unfolding set_word with_heap word size links link is_start granules first_run put
  word_lines ok =
      let pos : 1 ≤ g = start_pos o g sg in
      let hs' : List ℕ = put m.heap (4 * g + x) v in
      let first : 4 + 4 * (g - 1) ≡ 4 * g + 0 = omega arith in
      let here : 4 * g + x ≡ 4 + (4 * (g - 1) + x) = omega arith in
      put_heap o hs'
      (record {
        sized = simp length_put o.heap_ok.sized;
        starts_sized = o.heap_ok.starts_sized;
        blank = λ i h. nth_put_other m.heap (4 * g + x) i v (omega arith) ∙ o.heap_ok.blank i h;
        unused = o.heap_ok.unused;
        within = o.heap_ok.within;
        filled = fill_make (64 * m.k)
            (rw (here, drop-set-add 4 m.heap (4 * (g - 1) + x) v)
            (filled_put (heap_filled_of o).heap_filled g x v pos sg hx (rw (nth_drop 4 m.heap (4 * (g - 1)), first) hx')))
            (omega (arith, some_card o, length-drop 4 hs', length_put m.heap (4 * g + x) v, o.heap_ok.sized));
        links-ok = λ h i hh sh l.
            let l' = rw (links_written h sh) at l in
            elim (link_written h i sh l') [
              | inl ((a, b), w) ↦ rw w (ok (subst (λ z. x < 2 + nth m.heap (4 * z + 1)) a (omega arith)))
              | inr (n, w) ↦ rw w (o.heap_ok.links-ok h i hh sh l')
            ];
      })
      (λ h k. links_written h (o.marks_ok.on_starts h k).1)
