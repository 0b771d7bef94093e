-- A later line that asks something begins with a word and a tab; the text after them is its only other field.
use Rattle.std.proofs.Common.{◌≡◌, ℕ, suc, ◌+◌, ◌<◌, ◌≤◌, Bool, true, false, List, [], ◌∷◌, ◌++◌, length, take, drop, sym, refl, ap, ◌∙◌, ⊎_elim, append_assoc, arith, length-append, take-append-drop, take_all, take_at, le-ltb, lt-ltb, ne_eqb}
use mathlib.Core.Option.{Option, none, some}
use Rattle.std.specs.List.{IsSplitAt}
use Rattle.octets.specs.Octets.{same}
use Rattle.octets.proofs.Orders.{le_or_lt}
use Rattle.octets.proofs.Same.{same_refl, same_is, sizes_differ}
use Rattle.octets.specs.Search.{index_of}
use Rattle.book.specs.Limits.{most_line}
use Rattle.book.specs.Hex.{octets_of}
use Rattle.book.specs.Text.{tab, parts}
use Rattle.book.specs.Line.{fields, seal_word, open_word, malformed, asked_of, asked}
use Rattle.book.proofs.Hexadecimals.{no_digit}
use Rattle.book.proofs.Parts.{parts_some, parts_found, parts_none, split_found}

-- where the digits begin
abbrev pub digits_at : ℕ
digits_at = 5

pub too_long : (line : List ℕ) → most_line < length line → malformed ≡ asked (fields line)
unfolding fields asked
too_long line h = rw (lt-ltb most_line (length line) h)

neither : (word : List ℕ) → same word seal_word ≡ false → same word open_word ≡ false → (o : Option (List ℕ)) → malformed ≡ asked_of word o
unfolding asked_of
neither word e d none = refl
neither word e d (some f) = rw (e, d)

-- text that digits write has no tab
pub one_field : (s l : List ℕ) → octets_of s ≡ some l → parts tab s ≡ s ∷ []
one_field s l e =
    ⊎_elim
    (λ h. parts_none tab s h)
    (λ h. absurd (let z : none ≡ some l = sym (no_digit (take (index_of tab s) s) tab (drop (suc (index_of tab s)) s) refl) ∙ ap octets_of (sym (split_found tab s h)) ∙ e in let y : ◌≡◌ {A = ℕ} 0 1 = cc in omega arith))
    (le_or_lt (length s) (index_of tab s))

-- a word, and the text after its tab
two_fields : (word s : List ℕ) → asked (word ∷ parts tab s) ≡ asked_of word (octets_of s)
unfolding asked asked_of
two_fields word s = go (octets_of s) refl
  where
    more : (p q : List ℕ) (ps : List (List ℕ)) → parts tab s ≡ p ∷ q ∷ ps → asked (word ∷ parts tab s) ≡ malformed
    more p q ps e = rw (e, ne_eqb (suc (suc (suc (length ps)))) 2 (λ z. omega arith))

    go : (o : Option (List ℕ)) → octets_of s ≡ o → asked (word ∷ parts tab s) ≡ asked_of word o
    go (some l) e = rw (one_field s l e, e)
    go none e =
        ⊎_elim
        (λ h. rw (parts_none tab s h, e))
        (λ h. let q = parts_some tab (drop (suc (index_of tab s)) s) in more (take (index_of tab s) s) q.0 q.1.0 (parts_found tab s h ∙ ap (λ (r : List (List ℕ)). take (index_of tab s) s ∷ r) q.1.1))
        (le_or_lt (length s) (index_of tab s))

-- the word of a line that asks something, with the tab after it
module _ (word : List ℕ) where
  abbrev tabbed : List ℕ
  tabbed = word ++ (tab ∷ [])

  -- a line that begins with it, by what the text after it reads as
  pub asked_is : ((s : List ℕ) → parts tab (word ++ (tab ∷ s)) ≡ word ∷ parts tab s) → (line front digits : List ℕ) → length line ≤ most_line → IsSplitAt line digits_at front digits
      → same front tabbed ≡ true → (o : Option (List ℕ)) → o ≡ octets_of digits → asked_of word o ≡ asked (fields line)
  unfolding fields
  asked_is h line front digits fits split e o r =
      let cut : front ++ digits ≡ line = rw (split.1, split.2) (take-append-drop digits_at line) in
      let whole : line ≡ word ++ (tab ∷ digits)
      = sym cut ∙ ap (λ (p : List ℕ). p ++ digits) (same_is front tabbed e) ∙ append_assoc word (tab ∷ []) digits in
      ap (asked_of word) r
      ∙ sym (two_fields word digits)
      ∙ ap asked (sym (h digits) ∙ ap (parts tab) (sym whole))
      ∙ rw (le-ltb most_line (length line) fits)

  -- a line that doesn't has another one
  another : (line : List ℕ) → length word + 1 ≡ digits_at → index_of tab line < length line → same (take digits_at line) tabbed ≡ false
      → same (take (index_of tab line) line) word ≡ false
  another line z l e = by (same (take (index_of tab line) line) word) refl
    where
      by : (b : Bool) → same (take (index_of tab line) line) word ≡ b → b ≡ false
      by false f = refl
      by true f =
          let rest = drop (suc (index_of tab line)) line in
          let whole : line ≡ tabbed ++ rest
          = split_found tab line l ∙ ap (λ (p : List ℕ). p ++ (tab ∷ rest)) (same_is (take (index_of tab line) line) word f) ∙ sym (append_assoc word (tab ∷ []) rest) in
          let front : take digits_at line ≡ tabbed = ap (take digits_at) whole ∙ take_at tabbed rest digits_at (length-append word (tab ∷ []) ∙ z) in
          sym (same_refl tabbed) ∙ ap (λ (p : List ℕ). same p tabbed) (sym front) ∙ e

pub neither_is : (line : List ℕ) → length line ≤ most_line → same (take digits_at line) (seal_word ++ (tab ∷ [])) ≡ false → same (take digits_at line) (open_word ++ (tab ∷ [])) ≡ false
    → malformed ≡ asked (fields line)
unfolding fields asked
neither_is line fits e d =
    ⊎_elim
    (λ h. rw (le-ltb most_line (length line) fits, parts_none tab line h))
    (λ h. neither (take (index_of tab line) line) (another seal_word line refl h e) (another open_word line refl h d) (octets_of (drop (suc (index_of tab line)) line))
    ∙ sym (two_fields (take (index_of tab line) line) (drop (suc (index_of tab line)) line))
    ∙ ap asked (sym (parts_found tab line h)) ∙ rw (le-ltb most_line (length line) fits))
    (le_or_lt (length line) (index_of tab line))

pub too_short : (line : List ℕ) → length line < digits_at → malformed ≡ asked (fields line)
too_short line h = neither_is line (omega arith) (short seal_word refl) (short open_word refl)
  where
    short : (word : List ℕ) → length word + 1 ≡ digits_at → same (take digits_at line) (word ++ (tab ∷ [])) ≡ false
    short word z = sizes_differ (take digits_at line) (word ++ (tab ∷ [])) (λ e. omega (arith, e, length-append word (tab ∷ []), ap length (take_all digits_at line (omega arith))))

pub seal_parts : (s : List ℕ) → parts tab (seal_word ++ (tab ∷ s)) ≡ seal_word ∷ parts tab s
unfolding parts
seal_parts s = refl

pub open_parts : (s : List ℕ) → parts tab (open_word ++ (tab ∷ s)) ≡ open_word ∷ parts tab s
unfolding parts
open_parts s = refl
