-- Tests, bounded quantifiers and bits, by which the definitions are written. All of them compute.
use Rattle.std.specs.Prelude.{Bool, true, false, not, cond, ◌&&◌, ◌||◌, List, [], ◌∷◌, ℕ, zero, suc, ◌+◌, ◌/◌, ◌%◌, ◌^◌, eqb, length, get_or, set, replicate, take, drop}

-- ---- words of a list

-- word i of a list, 0 past its end
unfoldable pub nth : List ℕ → ℕ → ℕ
nth l i = get_or l i 0

-- the list with word i replaced
unfoldable pub put : List ℕ → ℕ → ℕ → List ℕ
put l i v = set l i v

-- as many zeros as the list has words
unfoldable pub zeros : List ℕ → List ℕ
zeros l = replicate (length l) 0

-- ---- tests

-- every number below n passes
unfoldable pub all : ℕ → (ℕ → Bool) → Bool
all zero p = true
all (suc n) p = all n p && p n

-- some number below n passes
unfoldable pub any : ℕ → (ℕ → Bool) → Bool
any zero p = false
any (suc n) p = any n p || p n

-- each line of a list of tests passes
unfoldable pub every : List Bool → Bool
every [] = true
every (b ∷ l) = b && every l

-- some line of a list of tests passes
unfoldable pub some : List Bool → Bool
some [] = false
some (b ∷ l) = b || some l

-- the second where the first holds, else the third
unfoldable pub either : Bool → Bool → Bool → Bool
either true a b = a
either false a b = b

-- where the first holds, so does the second
unfoldable pub implies : Bool → Bool → Bool
implies true b = b
implies false b = true

-- all words are 0
unfoldable pub zeroes : List ℕ → Bool
zeroes [] = true
zeroes (x ∷ l) = eqb x 0 && zeroes l

-- x is one of the words
unfoldable pub elem : ℕ → List ℕ → Bool
elem x [] = false
elem x (y ∷ l) = eqb x y || elem x l

-- no word stands twice
unfoldable pub distinct : List ℕ → Bool
distinct [] = true
distinct (x ∷ l) = not (elem x l) && distinct l

-- each of the first n pieces of s words passes
unfoldable pub each_piece : ℕ → ℕ → (List ℕ → Bool) → List ℕ → Bool
each_piece s zero p ws = true
each_piece s (suc n) p ws = p (take s ws) && each_piece s n p (drop s ws)

-- ---- choices

-- f 0, f 1, .. f (n - 1)
unfoldable pub table : {A : Type 0} → ℕ → (ℕ → A) → List A
table zero f = []
table (suc n) f = f zero ∷ table n (λ i. f (suc i))

-- 1 + the lowest number below n that passes and than which none that passes is better; 0 if none passes
unfoldable pub best : (ℕ → ℕ → Bool) → (ℕ → Bool) → ℕ → ℕ
best better ok zero = 0
best better ok (suc n) =
    elim (best better ok n) [ zero ↦ cond (ok n) (suc n) 0 | suc b ↦ cond (ok n && better n b) (suc n) (suc b) ]

-- 1 + the lowest number below n that passes; 0 if none passes
unfoldable pub lowest_of : (ℕ → Bool) → ℕ → ℕ
lowest_of ok n = best (λ a b. false) ok n

-- v 0 + v 1 + .. + v (n - 1)
unfoldable pub sum_below : (ℕ → ℕ) → ℕ → ℕ
sum_below v zero = 0
sum_below v (suc n) = sum_below v n + v n

-- how many numbers below n pass
unfoldable pub how_many : (ℕ → Bool) → ℕ → ℕ
unfolding sum_below
how_many p n = sum_below (λ i. cond (p i) 1 0) n

-- the number of the first line that passes, where lines count from n; 0 if none does
unfoldable pub first : ℕ → List Bool → ℕ
first n [] = 0
first n (b ∷ l) = elim b [ true ↦ n | false ↦ first (suc n) l ]

-- ---- bits: "Bit j (worth 2 to the j) of word w stands for granule 16 × w + j", for words of any width

-- bit j of a word
unfoldable pub test_bit : ℕ → ℕ → Bool
test_bit x j = eqb (x / 2 ^ j % 2) 1

-- the word with bit j set
unfoldable pub with_bit : ℕ → ℕ → ℕ
with_bit x j = cond (test_bit x j) x (x + 2 ^ j)

-- bit g of bit words of w bits
unfoldable pub bit : ℕ → List ℕ → ℕ → Bool
bit w ws g = test_bit (nth ws (g / w)) (g % w)

unfoldable pub set_bit : ℕ → List ℕ → ℕ → List ℕ
set_bit w ws g = put ws (g / w) (with_bit (nth ws (g / w)) (g % w))

-- bit words in which the bits below n that pass are set besides those of l
unfoldable pub add_bits : ℕ → (ℕ → Bool) → ℕ → List ℕ → List ℕ
add_bits w p zero l = l
add_bits w p (suc n) l = let r = add_bits w p n l in cond (p n) (set_bit w r n) r

-- opens all of these where an `unfolding` line names it
unfoldable pub base_open : ℕ
unfolding nth put zeros all any every some either implies zeroes elem distinct each_piece table best lowest_of sum_below how_many first test_bit with_bit bit set_bit add_bits
base_open = 0
