-- The parts of an answer's line, laid one behind the other.
use Rattle.std.proofs.Common.{◌≡◌, ℕ, ◌+◌, ◌*◌, ◌≤◌, List, [], ◌∷◌, ◌++◌, length, take, ap, ◌∙◌, append_assoc, arith, length-append, length-take-le}
use Rattle.rules.specs.Answers.{Done, Refused}
use Rattle.book.specs.Limits.{most_answer, most_result, most_digits, word_octets}
use Rattle.book.specs.declared.put.Page.{Page}
use Rattle.book.specs.Put.{HasRoom, Writes}
use Rattle.book.specs.Hex.{hex_of}
use Rattle.book.specs.Decimal.{decimal}
use Rattle.book.specs.Text.{tab, line_feed}
use Rattle.book.specs.Book.{bad_word, no_result, bad_line}
use Rattle.book.specs.Handed.{answer_text}
use Rattle.book.proofs.Decimals.{length_decimal, decimal_small}
use Rattle.book.proofs.Hexadecimals.{length_hex}
use Rattle.book.proofs.Puts.{writes_more, writes_as}

module _ (n : ℕ) (p₀ p₁ : Page) (room : HasRoom p₀ most_answer) (w₁ : Writes p₀ (decimal n) p₁) where
  short : length (decimal n) ≤ most_digits
  short = (length_decimal n).1

  pub bad_laid : (p₂ : Page) → Writes p₁ (tab ∷ (bad_word ++ (line_feed ∷ []))) p₂ → Writes p₀ (bad_line n) p₂
  unfolding bad_line
  bad_laid p₂ w₂ = writes_more p₀ p₁ p₂ _ _ (omega (arith, short)) w₁ w₂

  module _ (word : List ℕ) (six : length word ≡ word_octets) (p₂ : Page) (w₂ : Writes p₁ word p₂) where
    worded : Writes p₀ (decimal n ++ word) p₂
    worded = writes_more p₀ p₁ p₂ (decimal n) word (omega (arith, short)) w₁ w₂

    worded_size : length (decimal n ++ word) ≤ most_digits + word_octets
    worded_size = omega (arith, short, length-append (decimal n) word)

    pub done_laid : (k : ℕ) (result : List ℕ) → k ≤ most_result → k ≤ length result → (p₃ p₄ p₅ : Page)
        → Writes p₂ (48 ∷ tab ∷ []) p₃ → Writes p₃ (hex_of (take k result)) p₄ → Writes p₄ (line_feed ∷ []) p₅
        → Writes p₀ (answer_text n word (Done 0 0 k) result) p₅
    done_laid k result l h p₃ p₄ p₅ w₃ w₄ w₅ =
        let t₂ = decimal n ++ word in
        let t₃ = t₂ ++ (48 ∷ tab ∷ []) in
        let x = hex_of (take k result) in
        let s₃ : length t₃ ≤ most_digits + word_octets + 2 = omega (arith, worded_size, length-append t₂ (48 ∷ tab ∷ [])) in
        let sx : length x ≡ 2 * k = length_hex (take k result) ∙ ap (λ (i : ℕ). 2 * i) (length-take-le k result h) in
        let h₃ = writes_more p₀ p₂ p₃ t₂ (48 ∷ tab ∷ []) (omega (arith, worded_size)) worded w₃ in
        let h₄ = writes_more p₀ p₃ p₄ t₃ x (omega arith) h₃ w₄ in
        let h₅ = writes_more p₀ p₄ p₅ (t₃ ++ x) (line_feed ∷ []) (omega (arith, length-append t₃ x)) h₄ w₅ in
        writes_as p₀ p₅ _ (answer_text n word (Done 0 0 k) result) (simp append_assoc (rw (decimal_small 0 (omega arith)))) h₅

    pub refused_laid : (a : ℕ) (result : List ℕ) (p₃ p₄ : Page) → Writes p₂ (decimal a) p₃ → Writes p₃ (tab ∷ (no_result ++ (line_feed ∷ []))) p₄
        → Writes p₀ (answer_text n word (Refused a) result) p₄
    refused_laid a result p₃ p₄ w₃ w₄ =
        let t₂ = decimal n ++ word in
        let h₃ = writes_more p₀ p₂ p₃ t₂ (decimal a) (omega (arith, worded_size)) worded w₃ in
        let h₄ = writes_more p₀ p₃ p₄ (t₂ ++ decimal a) (tab ∷ (no_result ++ (line_feed ∷ []))) (omega (arith, worded_size, length-append t₂ (decimal a), length_decimal a)) h₃ w₄ in
        writes_as p₀ p₄ _ (answer_text n word (Refused a) result) (simp append_assoc) h₄
