-- The signs by the walk: what is in an object is told by how far the objects reach that start up to there.
use mathlib.Core.Path.{◌≡◌, refl, sym, ap, fun_ext, ◌∙◌}
use mathlib.Core.List.{List, [], ◌∷◌, ◌++◌}
use mathlib.Core.Bool.{Bool, true, false, cond, ◌&&◌, ◌||◌}
use mathlib.Core.Logic.{◌⊎◌}
use Prim.Native.Nat.{ℕ, zero, suc, ◌+◌, ◌*◌, ◌/◌, max, ◌≤◌, ◌<◌}
use native.Mathlib.Nat.{mul-zero}
use native.Mathlib.Decide.{dec_lt}
use native.Mathlib.Omega.{arith}
use lib.Dec.{ltb}
use borrow.Author.Tests.{lt-ltb, le-ltb}
use lib.ListN.{get_or, set}
use mir.Val.{bool_byte}
use Rattle.model.specs.Base.{nth, any, table, test_bit}
use Rattle.model.specs.Image.{Image, is_start, marked, size, image, image_of}
use Rattle.model.specs.Map.{in_object, sign_of, sign}
use Rattle.model.proofs.Laws.{table_length, table_add}
use Rattle.image_laws.proofs.Bits.{bit_at}
use Rattle.image_laws.proofs.Places.{by_width}
use Rattle.service_map_laws.specs.Ends.{end_before}
use Rattle.service_map_laws.specs.Pasted.{pasted}
use Rattle.service_map_laws.proofs.Pasted.{Pasting, pasting_none, pasting_more, pasting_end}

-- ---- bits as numbers: the table of signs, and an end that counts only where an object starts

one_most : (b : Bool) → bool_byte b ≤ 1
one_most true = omega arith
one_most false = omega arith

pub sign_below : (a b c : Bool) → 4 * bool_byte a + 2 * bool_byte b + bool_byte c < 8
sign_below a b c = omega (arith, one_most a, one_most b, one_most c)

pub sign_at : (a b c : Bool) → get_or (46 ∷ 45 ∷ 46 ∷ 45 ∷ 111 ∷ 111 ∷ 35 ∷ 35 ∷ []) (4 * bool_byte a + 2 * bool_byte b + bool_byte c) 0 ≡ sign_of a b c
unfolding sign_of
sign_at true true true = refl
sign_at true true false = refl
sign_at true false true = refl
sign_at true false false = refl
sign_at false true true = refl
sign_at false true false = refl
sign_at false false true = refl
sign_at false false false = refl

own_is : (b : Bool) (e : ℕ) → bool_byte b * e ≡ cond b e 0
own_is true e = omega arith
own_is false e = omega arith

pub own_most : (b : Bool) (e : ℕ) → bool_byte b * e ≤ e
own_most true e = omega arith
own_most false e = omega arith

-- ---- how far objects reach

-- g is below the larger of two just where it is below one of them
below_max : (g a b : ℕ) → ltb g (max a b) ≡ ltb g a || ltb g b
below_max g a b = elim (dec_lt g a) [
  | yes l ↦ rw (lt-ltb g a l, lt-ltb g (max a b) (omega arith))
  | no l ↦ elim (dec_lt g b) [
    | yes h ↦ rw (le-ltb g a (omega arith), lt-ltb g b h, lt-ltb g (max a b) (omega arith))
    | no h ↦ rw (le-ltb g a (omega arith), le-ltb g b (omega arith), le-ltb g (max a b) (omega arith))
  ]
]

below_own : (g e : ℕ) (b : Bool) → ltb g (cond b e 0) ≡ b && ltb g e
below_own g e true = refl
below_own g e false = le-ltb g 0 (omega arith)

module _ (b : Bool) (end g s z : ℕ) (e : s ≡ z) where
  own : bool_byte b * (g + s) ≡ cond b (g + z) 0
  own = own_is b (g + s) ∙ ap (λ x. cond b (g + x) 0) e

  pub own_further : end < bool_byte b * (g + s) → bool_byte b * (g + s) ≡ max end (cond b (g + z) 0)
  own_further h = omega (arith, own)

  pub own_before : bool_byte b * (g + s) ≤ end → end ≡ max end (cond b (g + z) 0)
  own_before h = omega (arith, own)

module _ (m : Image) where
  below_end : (g n : ℕ) → any n (λ s. is_start m s && ltb g (s + size m s)) ≡ ltb g (end_before m n)
  unfolding any end_before
  below_end g zero = sym (le-ltb g 0 (omega arith))
  below_end g (suc n) = rw (below_end g n, below_max g (end_before m n) (cond (is_start m n) (n + size m n) 0), below_own g (n + size m n) (is_start m n))

  pub inside_end : (g : ℕ) → in_object m g ≡ ltb g (end_before m (suc g))
  unfolding in_object
  inside_end g = below_end g (suc g)

-- ---- a loop that writes the signs from granule g on, s at each of n turns: after i of them

pub record SignsTo (m : Image) (n at g s : ℕ) (out₀ out : List ℕ) (end i : ℕ) : Type 0 where
  pub signs : Pasting n at (λ i. table (s * i) (λ j. sign m (g + j))) out₀ out i
  pub carried : end ≡ end_before m (g + s * i)

module _ {m : Image} {n at g s : ℕ} where
  pub signs_none : {out : List ℕ} {end : ℕ} → end ≡ end_before m g → SignsTo m n at g s out out end 0
  unfolding table
  signs_none e = record { signs = pasting_none (rw (mul-zero s)); carried = e ∙ ap (end_before m) (omega arith) }

  module _ {out₀ out : List ℕ} {end i : ℕ} (t : SignsTo m n at g s out₀ out end i) where
    pub signs_more : {out' : List ℕ} {end' : ℕ} (h p : ℕ) → i < n → h ≡ g + s * i → p ≡ at + s * i
        → end' ≡ end_before m (h + s) → out' ≡ pasted out p (table s (λ j. sign m (h + j))) → SignsTo m n at g s out₀ out' end' (i + 1)
    signs_more h p l eh ep e w = record {
      signs = pasting_more t.signs (table s (λ j. sign m (h + j))) l (w ∙ ap (λ q. pasted out q (table s (λ j. sign m (h + j)))) (ep ∙ ap (λ x. at + x) (sym (table_length (s * i) _)))) more;
      carried = e ∙ ap (end_before m) (omega arith);
    }
      where
        next : s * suc i ≡ s * i + s
        next = omega arith

        place : (j : ℕ) → g + (s * i + j) ≡ h + j
        place j = omega arith

        more : table (s * suc i) (λ j. sign m (g + j)) ≡ table (s * i) (λ j. sign m (g + j)) ++ table s (λ j. sign m (h + j))
        more =
            ap (λ x. table x (λ j. sign m (g + j))) next
            ∙ (table_add (s * i) s (λ j. sign m (g + j))
            ∙ ap (λ f. table (s * i) (λ j. sign m (g + j)) ++ table s f) (fun_ext (λ j. ap (sign m) (place j))))

    -- behind the last turn: l signs are written
    module _ {l : ℕ} (e : s * n ≡ l) (h : n ≤ i) where
      pub signs_carried : end ≡ end_before m (g + l)
      signs_carried = t.carried ∙ ap (end_before m) (let q : i ≡ n = omega (arith, t.signs.low) in rw q (ap (λ x. g + x) e))

      pub signs_end : out ≡ pasted out₀ at (table l (λ j. sign m (g + j)))
      signs_end = rw e at (pasting_end t.signs h)

-- one sign more, by the tests that the walk makes of the next granule
module _ {m : Image} {n at g : ℕ} {out₀ out : List ℕ} {end i : ℕ} (t : SignsTo m n at g 1 out₀ out end i) where
  sign_more : (st mk : Bool) (end' b : ℕ) → i < n → st ≡ is_start m (g + i) → mk ≡ marked m (g + i) → end' ≡ max end (cond st (g + i + size m (g + i)) 0)
      → b ≡ sign_of st mk (ltb (g + i) end') → SignsTo m n at g 1 out₀ (set out (at + i) b) end' (i + 1)
  sign_more st mk end' b l es em ee eb = signs_more t (g + i) (at + i) l (omega arith) (omega arith) (so_far ∙ ap (end_before m) (omega arith)) written
    where
      here : end ≡ end_before m (g + i)
      here = t.carried ∙ ap (end_before m) (omega arith)

      so_far : end' ≡ end_before m (suc (g + i))
      so_far = ee ∙ (unfold end_before in rw (here, es))

      is_sign : b ≡ sign m (g + i)
      is_sign = eb ∙ (unfold sign in rw (es, em, so_far, inside_end m (g + i)))

      none : g + i ≡ g + i + 0
      none = omega arith

      written : set out (at + i) b ≡ pasted out (at + i) (table 1 (λ j. sign m (g + i + j)))
      written = unfold pasted in unfold table in ap (set out (at + i)) (is_sign ∙ ap (sign m) none)

-- the same where the granules are those of bit word x
module _ (w k : ℕ) (ws : List ℕ) (x : ℕ) {at : ℕ} {out₀ out : List ℕ} {end j : ℕ} (t : SignsTo (image_of w k ws) w at (w * x) 1 out₀ out end j) (sw mw : ℕ)
    (esw : sw ≡ nth (image_of w k ws).starts x) (emw : mw ≡ nth (image_of w k ws).marks x) where
  pub sign_by_bits : (st mk : Bool) (end' b : ℕ) → j < w → st ≡ test_bit sw j → mk ≡ test_bit mw j → end' ≡ max end (cond st (w * x + j + size (image_of w k ws) (w * x + j)) 0)
      → b ≡ sign_of st mk (ltb (w * x + j) end') → SignsTo (image_of w k ws) w at (w * x) 1 out₀ (set out (at + j) b) end' (j + 1)
  sign_by_bits st mk end' b l es em ee eb = sign_more t st mk end' b l (es ∙ is-start) (em ∙ is_mark) ee eb
    where
      is-start : test_bit sw j ≡ is_start (image_of w k ws) (w * x + j)
      is-start = ap (λ y. test_bit y j) esw ∙ (sym (bit_at w (image_of w k ws).starts x j l) ∙ (unfold is_start in unfold image_of in unfold image in refl))

      is_mark : test_bit mw j ≡ marked (image_of w k ws) (w * x + j)
      is_mark = ap (λ y. test_bit y j) emw ∙ (sym (bit_at w (image_of w k ws).marks x j l) ∙ (unfold marked in unfold image_of in unfold image in refl))

-- ---- bit word i of the b = 64 / w words of card c

module _ {w b : ℕ} (o : (w ≡ 16) ⊎ (w ≡ 32)) (e : b ≡ 64 / w) where
  pub words_card : w * b ≡ 64
  words_card = rw e (by_width (λ w. w * (64 / w) ≡ 64) (omega arith) (omega arith) o)

  module _ {i : ℕ} (l : i < b) where
    pub bits_card : w * i + w ≤ 64
    bits_card = by_width (λ w. i < 64 / w → w * i + w ≤ 64) (λ h. omega arith) (λ h. omega arith) o (rw e at l)

    pub word_store : {c k : ℕ} → c < k → b * c + i < 64 * k / w
    word_store {c = c} {k = k} h = rw e (by_width (λ w. i < 64 / w → 64 / w * c + i < 64 * k / w) (λ l. omega arith) (λ l. omega arith) o (rw e at l))

  pub word_granule : (c i : ℕ) → w * (b * c + i) ≡ 64 * c + w * i
  word_granule c i = rw e (by_width (λ w. w * (64 / w * c + i) ≡ 64 * c + w * i) (omega arith) (omega arith) o)
