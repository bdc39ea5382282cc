-- The walk as a loop: pieces fill the heap, and the links of every object are nil or starts. Every start is an object.
use mathlib.Core.Path.{◌≡◌, refl, sym, ap, ◌∙◌}
use mathlib.Core.Bool.{Bool, true, false, not, cond, ◌&&◌, and-true, and-false, and_assoc}
use mathlib.Core.Logic.{inl, inr}
use mathlib.Core.List.{List, ◌∷◌}
use Prim.Native.Nat.{ℕ, suc, ◌+◌, ◌*◌, ◌-◌, ◌≤◌, ◌<◌}
use native.Mathlib.Nat.{add-zero, zero-add}
use native.Mathlib.Omega.{arith}
use lib.Dec.{eqb}
use lib.ListN.{drop, drop_of_length-le, take}
use lib.Seq.{drop-drop}
use mir.Val.{bool_byte}
use borrow.Author.Tests.{not-true, not-false, eq-eqb, ne_eqb}
use Rattle.model.specs.Base.{nth, all, implies, every, zeroes, how_many}
use Rattle.model.specs.Image.{image, image_of, granules, most_cards, word, is_start, links, first_run}
use Rattle.model.specs.Undamaged.{bare, piece, fill, filled, links_ok, zero_granule}
use Rattle.model.proofs.Laws.{false≢, bool_cases, and_split, all_use, all_make, every_use}
use Rattle.soundness_laws.specs.Tests.{link_ok, object_ok, piece_ok, next_run, LinksInside}
use Rattle.soundness_laws.proofs.Checks.{all_append}
use Rattle.soundness_laws.proofs.Pieces.{head_use, piece_split, piece_size, tail_at, tail_long, head_is, object_is}
use Rattle.soundness_laws.proofs.Starts.{not_start, clear, seen_more, seen_few}
use Rattle.image_laws.specs.Sized.{Sized}
use Rattle.image_laws.proofs.Parts.{all_first, zero_stretch}
use Rattle.image_laws.proofs.Digits.{digit_le}
use Rattle.image_laws.proofs.Lengths.{heap_words, sized_width}
use Rattle.image_laws.proofs.Places.{few_cards}
use Rattle.image_laws.specs.Digits.{digit, start_bit}
use Rattle.model.proofs.Counts.{how_many_most}

-- ---- the end of the last run, behind a piece from g to g + s

run_behind : (g s end : ℕ) (b : Bool) → end ≤ g → cond b end (g + s) ≤ g + s
run_behind g s end true h = omega arith
run_behind g s end false h = omega arith

run_end : (g s end : ℕ) (b : Bool) → end ≤ g → 1 ≤ s → eqb (g + s) (cond b end (g + s)) ≡ not b
run_end g s end true h p = ne_eqb (g + s) end (λ (q : g + s ≡ end). omega arith)
run_end g s end false h p = eq-eqb (g + s) (g + s) refl

pub byte_digit : (b : Bool) → bool_byte b ≡ digit b
unfolding digit
byte_digit true = refl
byte_digit false = refl

-- ---- one turn of the model's walk

fill_more : (st : ℕ → Bool) (n g s : ℕ) (ws : List ℕ) (next : ℕ) (run : Bool)
    → fill st (suc n) g (s ∷ ws) next run ≡ (piece st g s ws next run (st g) && fill st n (g + s) (drop (4 * s) (s ∷ ws)) (cond (st g) next (nth ws 0)) (not (st g)))
unfolding fill
fill_more st n g s ws next run = elim (bool_cases (piece st g s ws next run (st g))) [ inl e ↦ rw (e, fill) | inr e ↦ rw (e, fill) ]

module _ (w k : ℕ) (l : List ℕ) where
  abbrev fill_from : ℕ → ℕ → ℕ → Bool → Bool
  fill_from n g next run = fill (is_start (image_of w k l)) n g (drop (4 * g) (image_of w k l).heap) next run

  -- the state of the loop at g, with `seen` objects behind and the last run ending at `end`: as long as these are all the starts, the pieces and links so far are in order
  pub record HeapWalk (g next end seen : ℕ) : Type 0 where
    pub fuel : ℕ
    pub inside : g ≤ 64 * k
    pub behind : end ≤ g
    pub enough : 64 * k < g + fuel
    pub few : seen ≤ how_many (is_start (image_of w k l)) g
    pub same : filled (image_of w k l) ≡ (eqb seen (how_many (is_start (image_of w k l)) g) && fill_from fuel g next (eqb g end))
    pub so_far : eqb seen (how_many (is_start (image_of w k l)) g) ≡ true → all g (links_ok (image_of w k l)) ≡ true

  abbrev pub heap_lines : Bool
  heap_lines = filled (image_of w k l) && all (granules (image_of w k l)) (links_ok (image_of w k l))

  module _ (z : Sized w k l) where
    -- ---- the loop

    links_none : (h : ℕ) → is_start (image_of w k l) h ≡ false → links_ok (image_of w k l) h ≡ true
    unfolding links_ok implies
    links_none h e = rw e

    links_more : (g s : ℕ) → 1 ≤ s → clear (image_of w k l) (g + 1) (s - 1) ≡ true → all (g + s) (links_ok (image_of w k l)) ≡ (all g (links_ok (image_of w k l)) && links_ok (image_of w k l) g)
    unfolding clear not_start
    links_more g s p c =
        let e : suc (s - 1) ≡ s = omega arith in
        let a : all (s - 1) (λ i. links_ok (image_of w k l) (g + suc i)) ≡ true = all_make (s - 1) _ (λ i h.
        let q : g + 1 + i ≡ g + suc i = omega arith in
        links_none (g + suc i) (rw q at (not-true (is_start (image_of w k l) (g + 1 + i)) (all_use (s - 1) (not_start (image_of w k l) (g + 1)) c i h)))) in
        all_append g s (links_ok (image_of w k l))
        ∙ ap (λ b. all g (links_ok (image_of w k l)) && b) ((rw e at (all_first (s - 1) (λ i. links_ok (image_of w k l) (g + i)))) ∙ rw (a, add-zero) (and-true _))

    pub w_start : (first : ℕ) → first ≡ first_run (image_of w k l) → is_start (image_of w k l) 0 ≡ false → HeapWalk 1 first 0 0
    unfolding filled all granules how_many digit image_of image
    w_start first e h = record { fuel = 64 * k; inside = omega (arith, z.low); behind = omega arith; enough = omega arith; few = omega arith; same = rw (e, h); so_far = λ _. links_none 0 h }

    module _ (g next end seen : ℕ) (v : HeapWalk g next end seen) where
      pub w_small : seen ≤ 64 * most_cards w
      w_small = omega (arith, v.few, how_many_most (is_start (image_of w k l)) g, v.inside, z.high)

      -- the count fits, with one more too
      pub w_fits : (b : Bool) → seen + bool_byte b ≤ 64 * 65536 + 1
      w_fits b = rw (byte_digit b) (omega (arith, digit_le b, v.few, how_many_most (is_start (image_of w k l)) g, v.inside, few_cards (sized_width z) z.high))

      module _ (hg : g < 64 * k) where
        -- a link that is neither nil nor a start
        pub w_link : (c : Bool) → c ≡ links_ok (image_of w k l) g → not c ≡ true → false ≡ heap_lines
        unfolding granules image_of image
        w_link c ec r = elim (bool_cases (all (granules (image_of w k l)) (links_ok (image_of w k l)))) [
          | inl e ↦ false≢ (sym (sym ec ∙ not-true c r) ∙ all_use (granules (image_of w k l)) (links_ok (image_of w k l)) e g hg)
          | inr e ↦ rw e (sym (and-false (filled (image_of w k l))))
        ]

        module _ (t : Bool) (e : t ≡ piece_ok (image_of w k l) g next (eqb g end)) where
          abbrev rest : Bool
          rest = fill_from (v.fuel - 1) (g + word (image_of w k l) g 0) (next_run (image_of w k l) g next) (not (is_start (image_of w k l) g))

          here : filled (image_of w k l) ≡ (eqb seen (how_many (is_start (image_of w k l)) g) && ((t && clear (image_of w k l) (g + 1) (word (image_of w k l) g 0 - 1)) && rest))
          unfolding piece_ok next_run bare clear not_start
          here =
              let q : suc (v.fuel - 1) ≡ v.fuel = omega (arith, v.enough) in
              let s : 4 * g + 4 * word (image_of w k l) g 0 ≡ 4 * (g + word (image_of w k l) g 0) = omega arith in
              let head = head_is w k l z g hg in
              rw (← q, head, fill_more (is_start (image_of w k l)), piece_split (is_start (image_of w k l)), tail_at w k l z g hg 0, ← head, drop-drop, s, ← e) at v.same

          pub w_stop : not t ≡ true → false ≡ heap_lines
          w_stop q = let h : filled (image_of w k l) ≡ false = here ∙ rw (not-true t q) (and-false (eqb seen (how_many (is_start (image_of w k l)) g))) in rw h

          module _ (q : not t ≡ false) where
            -- a piece that is in order is not empty, and lies inside
            found : (1 ≤ word (image_of w k l) g 0) × (g + word (image_of w k l) g 0 ≤ 64 * k)
            unfolding piece_ok
            found = let p = piece_size (λ _. false) g _ _ next (eqb g end) _ (sym e ∙ not-false t q) in (p.0, omega (arith, p.1, tail_long w k l z g hg))

            -- an object that is in order has its links inside the heap
            pub w_room : LinksInside k (image_of w k l) g
            unfolding links piece_ok object_ok piece
            w_room = record {
              inside = λ h.
                  let r = head_use k g (word (image_of w k l) g 0) (word (image_of w k l) g 1) (object_is w k l z g hg _ _ refl refl ∙ rw h at (sym e ∙ not-false t q)) in
                  omega (arith, r.inside, r.links-in);
            }

            pub w_less : (s : ℕ) → s ≡ word (image_of w k l) g 0 → 64 * k - (g + s) < 64 * k - g
            w_less s es = omega (arith, found)

            seen_is : eqb (seen + start_bit (image_of w k l) g) (how_many (is_start (image_of w k l)) (g + word (image_of w k l) g 0)) ≡ (eqb seen (how_many (is_start (image_of w k l)) g) && clear (image_of w k l) (g + 1) (word (image_of w k l) g 0 - 1))
            seen_is = seen_more (image_of w k l) g (word (image_of w k l) g 0) seen found.0 v.few

            pub w_more : (s next' end' seen' : ℕ) (b c : Bool) → b ≡ is_start (image_of w k l) g → c ≡ links_ok (image_of w k l) g → not c ≡ false → seen' ≡ seen + digit b → next' ≡ next_run (image_of w k l) g next → s ≡ word (image_of w k l) g 0 → end' ≡ cond b end (g + s) → HeapWalk (g + s) next' end' seen'
            w_more s next' end' seen' b c eb ec r eseen en es eend = record {
              fuel = v.fuel - 1;
              inside = omega (arith, found);
              behind = rw eend (run_behind g s end b v.behind);
              enough = omega (arith, found, v.enough);
              few = rw (eseen, eb, es) (seen_few (image_of w k l) g (word (image_of w k l) g 0) seen found.0 v.few);
              same = rw (eend, run_end g s end b v.behind (rw es found.0), eseen, eb, es, en, seen_is) (here ∙ rw (not-false t q) (sym (and_assoc (eqb seen (how_many (is_start (image_of w k l)) g)) (clear (image_of w k l) (g + 1) (word (image_of w k l) g 0 - 1)) rest)));
              so_far = λ h.
                  let p = and_split _ _ (sym seen_is ∙ rw (eseen, eb, es) at h) in
                  rw (es, links_more g (word (image_of w k l) g 0) found.0 p.1, v.so_far p.0, ← ec, not-false c r);
            }

      pub w_end : 64 * k ≤ g → (n : ℕ) → n ≡ how_many (is_start (image_of w k l)) (64 * k) → (eqb next 0 && eqb seen n) ≡ heap_lines
      unfolding granules image_of image fill
      w_end h n en =
          let q : suc (v.fuel - 1) ≡ v.fuel = omega (arith, v.enough, v.inside) in
          let o : g ≡ 64 * k = omega (arith, v.inside) in
          let past = drop_of_length-le (image_of w k l).heap {i = 4 * g} (omega (arith, heap_words z)) in
          let f : filled (image_of w k l) ≡ (eqb seen n && eqb next 0) = rw (← q, past) at v.same ∙ rw (en, o) in
          rw f (elim (bool_cases (eqb seen n)) [
            | inl e ↦ let a : all (64 * k) (links_ok (image_of w k l)) ≡ true = rw o at (v.so_far (rw (o, ← en) e)) in rw (e, a)
            | inr e ↦ rw e (and-false (eqb next 0))
          ])

-- ---- the ways out of `object_links`, `first_unused` and `heap_ok`

module _ (w k : ℕ) (l : List ℕ) where
  module _ (g : ℕ) (t : Bool) (et : t ≡ is_start (image_of w k l) g) where
    pub links_object : (n : ℕ) (r : Bool) → t ≡ true → n ≡ links (image_of w k l) g → r ≡ all n (link_ok (image_of w k l) g) → r ≡ links_ok (image_of w k l) g
    unfolding links_ok implies link_ok
    links_object n r h en q = rw (← et, h, ← en) q

    pub inside_use : (n : ℕ) → LinksInside k (image_of w k l) g → t ≡ true → n ≡ links (image_of w k l) g → 4 * g + 2 + n ≤ 256 * k
    inside_use n r h en = rw en (r.inside (sym et ∙ h))

    pub links_run : t ≡ false → true ≡ links_ok (image_of w k l) g
    unfolding links_ok implies
    links_run h = rw (← et, h)

  module _ (t : Bool) (et : t ≡ zero_granule (image_of w k l)) where
    pub heap_no : not t ≡ true → false ≡ (zero_granule (image_of w k l) && (filled (image_of w k l) && all (granules (image_of w k l)) (links_ok (image_of w k l))))
    heap_no h = rw (← et, not-true t h)

    pub heap_yes : (r : Bool) → not t ≡ false → r ≡ (filled (image_of w k l) && all (granules (image_of w k l)) (links_ok (image_of w k l))) → r ≡ (zero_granule (image_of w k l) && (filled (image_of w k l) && all (granules (image_of w k l)) (links_ok (image_of w k l))))
    heap_yes r h q = rw (← et, not-false t h) q

    pub unused : not t ≡ false → is_start (image_of w k l) 0 ≡ false
    unfolding zero_granule
    unused h = not-true (is_start (image_of w k l) 0) (every_use _ (sym et ∙ not-false t h) 1)

  pub first_unused : (z : Sized w k l) (r t : Bool) → r ≡ zeroes (take 4 (image_of w k l).heap) → t ≡ is_start (image_of w k l) 0 → (r && not t) ≡ zero_granule (image_of w k l)
  unfolding zero_granule every
  first_unused z r t er et = rw (er, et, zero_stretch (image_of w k l).heap 0 4 (omega (arith, heap_words z, z.low))) (simp (zero-add, and-true))
