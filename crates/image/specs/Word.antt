-- What a word of a store is.
use Rattle.std.specs.Prelude.{◌≡◌, ◌⊎◌, refl, List, map, ℕ, ◌/◌, ◌^◌}
use Rattle.std.proofs.Common.{inl, inr, sym}
use Rattle.std.proofs.lemmas.List.{map-id}
use Rattle.model.specs.Image.{most_cards}

-- a number is its own value
abbrev pub here : ℕ → ℕ
here x = x

abbrev pub same_words : List ℕ → List ℕ
same_words l = l

pub record IsWord {A : Type 0} (bits all card_bits most : ℕ) (value : A → ℕ) (words : List A → List ℕ) : Type 0 where
  -- "16-bit words"; document 02, (ix): "a wide store of 32-bit words"
  pub one_of_two : (bits ≡ 16) ⊎ (bits ≡ 32)
  pub values : all ≡ 2 ^ bits
  -- a bit for each granule of a card
  pub bits_of_card : card_bits ≡ 64 / bits
  pub cards : most ≡ most_cards bits
  pub by_value : (l : List A) → words l ≡ map value l

pub narrow_is_word : IsWord 16 65536 4 512 here same_words
narrow_is_word = record { one_of_two = inl refl; values = refl; bits_of_card = refl; cards = refl; by_value = λ l. sym (map-id l) }

pub wide_is_word : IsWord 32 4294967296 2 65536 here same_words
wide_is_word = record { one_of_two = inr refl; values = refl; bits_of_card = refl; cards = refl; by_value = λ l. sym (map-id l) }
