-- A plane of bits over granules: stretches with a bit, bits added, and starts that have none.
use Rattle.std.specs.Prelude.{ℕ, ◌+◌, ◌≡◌, Bool, not, ◌||◌, List, [], ◌∷◌, leb, ltb, length}
use Rattle.model.specs.Base.{nth, any, every, test_bit, bit}
use Rattle.model.specs.Image.{Image, is_start}
use Rattle.model.specs.Report.{stretch_start, stretch_length}

-- the bits that pass are added, in words of w bits
pub record Adds (w : ℕ) (s : List ℕ) (p : ℕ → Bool) (s' : List ℕ) : Type 0 where
  pub same : length s' ≡ length s
  pub bits : (g : ℕ) → bit w s' g ≡ (bit w s g || p g)

-- some granule of stretch i passes
unfoldable pub some_in : (ℕ → Bool) → List ℕ → ℕ → Bool
some_in p bs i = any (stretch_length bs i) (λ j. p (stretch_start bs i + j))

-- granule g is one of a to e - 1
unfoldable pub spans : ℕ → ℕ → ℕ → Bool
spans a e g = every (leb a g ∷ ltb g e ∷ [])

-- bit j is set in x and not in v
unfoldable pub bare_bit : ℕ → ℕ → ℕ → Bool
bare_bit x v j = every (test_bit x j ∷ not (test_bit v j) ∷ [])

-- a start of bit word i without a bit; a start without a bit
unfoldable pub bare_word : ℕ → Image → List ℕ → ℕ → Bool
bare_word w m s i = any w (bare_bit (nth m.starts i) (nth s i))

unfoldable pub bare_start : ℕ → Image → List ℕ → ℕ → Bool
bare_start w m s g = every (is_start m g ∷ not (bit w s g) ∷ [])
