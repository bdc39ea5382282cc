-- The lines: a heading's bytes, a line from its parts, the lines one behind the other.
use mathlib.Core.Path.{◌≡◌, refl, sym, ap, ◌∙◌}
use mathlib.Core.List.{List, [], ◌∷◌, ◌++◌, append_assoc, append-nil}
use Prim.Native.Nat.{ℕ, zero, suc, ◌+◌, ◌*◌, ◌≤◌, ◌<◌}
use native.Mathlib.Decide.{ℕ_discrete}
use native.Mathlib.Omega.{arith}
use lib.ListN.{length, set, length-append}
use Rattle.model.specs.Base.{nth, table}
use Rattle.model.specs.Image.{Image, state, join}
use Rattle.model.specs.Map.{space_char, line_end, sign, heading, card_line, map_lines}
use Rattle.model.proofs.Laws.{table_length, table_more}
use Rattle.service_map_laws.specs.Ends.{end_before}
use Rattle.service_map_laws.specs.Pasted.{pasted}
use Rattle.service_map_laws.proofs.Pasted.{Pasting, pasting_none, pasting_more, pasting_end, pasted_then, pasted_whole}

-- ---- a heading

pub byte_is : (c s j r i : ℕ) → j ≡ i → r ≡ nth (heading c s) i → r ≡ nth (heading c s) j
byte_is c s j r i e q = rw e q

pub byte_space : (c s j : ℕ) → j < 7 → (j ≡ 0 → ⊥) → (j ≡ 1 → ⊥) → (j ≡ 2 → ⊥) → (j ≡ 3 → ⊥) → (j ≡ 5 → ⊥) → 32 ≡ nth (heading c s) j
unfolding nth heading
byte_space c s j h n0 n1 n2 n3 n5 = elim (ℕ_discrete j 4) [ yes e ↦ rw e | no n ↦ let e : j ≡ 6 = omega arith in rw e ]

-- the heading is written byte by byte: after j of them
abbrev pub HeadingTo : ℕ → ℕ → ℕ → List ℕ → List ℕ → ℕ → Type 0
HeadingTo at c s = Pasting 7 at (λ j. table j (nth (heading c s)))

module _ (at c s : ℕ) where
  pub heading_none : (out : List ℕ) → HeadingTo at c s out out 0
  unfolding table
  heading_none out = pasting_none refl

  module _ (out₀ out : List ℕ) (j : ℕ) (t : HeadingTo at c s out₀ out j) where
    pub heading_more : (b : ℕ) → j < 7 → b ≡ nth (heading c s) j → HeadingTo at c s out₀ (set out (at + j) b) (j + 1)
    unfolding pasted
    heading_more b h e =
        pasting_more t (nth (heading c s) j ∷ []) h
        (ap (λ i. set out (at + i) b) (sym (table_length j (nth (heading c s)))) ∙ ap (set out (at + length (table j (nth (heading c s))))) e) (table_more j (nth (heading c s)))

    pub heading_end : (z : ℕ) → s ≡ z → 7 ≤ j → out ≡ pasted out₀ at (heading c z)
    unfolding table nth heading
    heading_end z e h = rw (← e) (pasting_end t h)

-- ---- a line

pub ending_written : (out : List ℕ) (c : ℕ) → set (set out (73 * c + 71) 32) (73 * c + 72) 10 ≡ pasted out (73 * c + 71) (space_char ∷ line_end ∷ [])
unfolding pasted
ending_written out c = ap (λ x. set (set out (73 * c + 71) 32) x 10) (omega arith)

module _ (m : Image) (c : ℕ) where
  line_length : length (card_line m c) ≡ 73
  unfolding card_line heading
  line_length = simp (length-append, table_length)

  abbrev signs : List ℕ
  signs = table 64 (λ i. sign m (64 * c + i))

  -- its heading, its signs, a space and a line end
  pub line_of : (out out₁ out₂ out₃ : List ℕ) → out₁ ≡ pasted out (73 * c) (heading c (state m c)) → out₂ ≡ pasted out₁ (73 * c + 7) signs
      → out₃ ≡ pasted out₂ (73 * c + 71) (space_char ∷ line_end ∷ []) → out₃ ≡ pasted out (73 * c) (card_line m c)
  unfolding card_line heading
  line_of out out₁ out₂ out₃ h g e =
      e
      ∙ (ap (λ l. pasted l (73 * c + 71) (space_char ∷ line_end ∷ [])) g
      ∙ (ap (λ x. pasted (pasted out₁ (73 * c + 7) signs) x (space_char ∷ line_end ∷ [])) (rw (table_length 64 (λ i. sign m (64 * c + i))) (omega arith))
      ∙ (pasted_then signs (space_char ∷ line_end ∷ []) out₁ (73 * c + 7)
      ∙ (ap (λ l. pasted l (73 * c + 7) (signs ++ (space_char ∷ line_end ∷ []))) h
      ∙ pasted_then (heading c (state m c)) (signs ++ (space_char ∷ line_end ∷ [])) out (73 * c)))))

-- ---- the lines

join_more : (ls : List (List ℕ)) (l : List ℕ) → join (ls ++ (l ∷ [])) ≡ join ls ++ l
unfolding join
join_more [] l = append-nil l
join_more (x ∷ ls) l = ap (λ r. x ++ r) (join_more ls l) ∙ sym (append_assoc x (join ls) l)

module _ (m : Image) where
  -- those of the first c cards
  abbrev lines_of : ℕ → List ℕ
  lines_of c = join (table c (card_line m))

  lines_more : (c : ℕ) → lines_of (suc c) ≡ lines_of c ++ card_line m c
  lines_more c = ap join (table_more c (card_line m)) ∙ join_more (table c (card_line m)) (card_line m c)

  lines_length : (c : ℕ) → length (lines_of c) ≡ 73 * c
  unfolding join table
  lines_length zero = refl
  lines_length (suc c) = ap length (lines_more c) ∙ (length-append (lines_of c) (card_line m c) ∙ omega (arith, lines_length c, line_length m c))

  -- after c of n cards, with how far the objects on them reach
  pub record LinesTo (n : ℕ) (out₀ out : List ℕ) (end c : ℕ) : Type 0 where
    pub drawn : Pasting n 0 lines_of out₀ out c
    pub carried : end ≡ end_before m (64 * c)

  module _ (n : ℕ) where
    pub lines_none : (out : List ℕ) → LinesTo n out out 0 0
    unfolding join table end_before
    lines_none out = record { drawn = pasting_none refl; carried = refl }

    pub line_more : (out₀ out out' : List ℕ) (end end' c : ℕ) → LinesTo n out₀ out end c → c < n → end' ≡ end_before m (64 * c + 64)
        → out' ≡ pasted out (73 * c) (card_line m c) → LinesTo n out₀ out' end' (c + 1)
    line_more out₀ out out' end end' c t h e w = record {
      drawn = pasting_more t.drawn (card_line m c) h (w ∙ ap (λ x. pasted out x (card_line m c)) (omega (arith, lines_length c))) (lines_more c);
      carried = e ∙ ap (end_before m) (omega arith);
    }

    pub lines_end : (out₀ out : List ℕ) (end c : ℕ) → n ≡ m.k → length out₀ ≡ 73 * n → LinesTo n out₀ out end c → n ≤ c → out ≡ map_lines m
    unfolding map_lines
    lines_end out₀ out end c q l t h =
        pasting_end t.drawn h ∙ (pasted_whole (lines_of n) out₀ (omega (arith, lines_length n)) ∙ ap lines_of q)
