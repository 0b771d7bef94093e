-- Line 1, by the places of its tabs.
use Rattle.std.proofs.Common.{◌≡◌, ℕ, suc, ◌+◌, ◌*◌, ◌<◌, ◌≤◌, Bool, true, false, cond, not, eqb, ltb, List, [], ◌∷◌, length, get_or, take, drop, sym, refl, ap, ◌∙◌, ⊎_elim, arith, length-drop, length-take-le, take_all, drop-cons, drop-drop, le-ltb, eq-eqb, eqb-true, le-leb, leb-true}
use mathlib.Core.Option.{Option, none, some}
use Rattle.octets.specs.Octets.{same}
use Rattle.octets.specs.Options.{contents, is_none}
use Rattle.octets.proofs.Booleans.{both}
use Rattle.octets.proofs.Orders.{le_or_lt}
use Rattle.octets.proofs.Same.{same_is}
use Rattle.rules.specs.Limits.{most_key_id, key_octets, address_octets}
use Rattle.std.proofs.Common.{◌==◌, Some, None, position}
use Rattle.std.specs.Option.{option_eq}
use Rattle.std.specs.declared.option.Option
use Rattle.octets.specs.Search.{index_of}
use Rattle.octets.proofs.Search.{found as tab_found}
use Rattle.book.specs.Limits.{most_line}
use Rattle.book.specs.declared.line.Keys.{Keys}
use Rattle.book.specs.Hex.{digit, octets_of}
use Rattle.book.specs.Text.{tab, parts}
use Rattle.book.specs.Line.{fields, field, key_word, is_hex, is_key_id, is_key_line}
use Rattle.book.specs.Handed.{key_at, key_id_at, own_at, peer_at, key_line_octets, word_part, key_part, key_id_part, own_part, peer_part, KeyTabs, Given}
use Rattle.book.proofs.Forms.{one_field}
use Rattle.book.proofs.Parts.{parts_some, parts_found, parts_none}
use Rattle.book.proofs.Searches.{answer}

-- what a good line 1 says of its fields
pub record KeyForm (fs : List (List ℕ)) : Type 0 where
  pub five : length fs ≡ 5
  pub word : same (field fs 0) key_word ≡ true
  pub key : is_hex key_octets (field fs 1) ≡ true
  pub id : is_key_id (field fs 2) ≡ true
  pub own : is_hex address_octets (field fs 3) ≡ true
  pub peer : is_hex address_octets (field fs 4) ≡ true

pub key_form : (fs : List (List ℕ)) → is_key_line fs ≡ true → KeyForm fs
unfolding is_key_line
key_form fs e =
    let a = both _ _ e in
    let b = both _ _ a.1 in
    let c = both _ _ b.1 in
    let d = both _ _ c.1 in
    let f = both _ _ d.1 in
    record { five = eqb-true (length fs) 5 a.0; word = b.0; key = c.0; id = d.0; own = f.0; peer = f.1 }

pub key_line : (fs : List (List ℕ)) → KeyForm fs → true ≡ is_key_line fs
unfolding is_key_line
key_line fs f = rw (f.five, f.word, f.key, f.id, f.own, f.peer)

pub refuted : (b : Bool) → (b ≡ true → ⊥) → false ≡ b
refuted true h = absurd (h refl)
refuted false h = refl

hex_size : (n : ℕ) (s : List ℕ) → is_hex n s ≡ true → length s ≡ 2 * n
unfolding is_hex
hex_size n s e = eqb-true (length s) (2 * n) (both (eqb (length s) (2 * n)) _ e).0

hex_read : (n : ℕ) (s : List ℕ) → is_hex n s ≡ true → not (is_none (octets_of s)) ≡ true
unfolding is_hex
hex_read n s e = (both (eqb (length s) (2 * n)) _ e).1

is_hex_lem : (n : ℕ) (s : List ℕ) → length s ≡ 2 * n → not (is_none (octets_of s)) ≡ true → is_hex n s ≡ true
unfolding is_hex
is_hex_lem n s l e = rw (eq-eqb (length s) (2 * n) l, e)

id_size : (s : List ℕ) → is_key_id s ≡ true → length s ≡ 1
unfolding is_key_id
id_size [] e = absurd (let z : false ≡ true = e in let y : ◌≡◌ {A = ℕ} 0 1 = cc in omega arith)
id_size (d ∷ []) e = refl
id_size (d ∷ x ∷ s) e = absurd (let z : false ≡ true = e in let y : ◌≡◌ {A = ℕ} 0 1 = cc in omega arith)

-- the first of several parts ends at the first tab
first_ends : (s w q : List ℕ) (qs : List (List ℕ)) → parts tab s ≡ w ∷ q ∷ qs → (index_of tab s ≡ length w) × (parts tab (drop (suc (length w)) s) ≡ q ∷ qs)
first_ends s w q qs e =
    ⊎_elim
    (λ h. absurd (let z : s ∷ [] ≡ w ∷ q ∷ qs = sym (parts_none tab s h) ∙ e in let y : ◌≡◌ {A = ℕ} 0 1 = cc in omega arith))
    (λ h.
    let z : take (index_of tab s) s ∷ parts tab (drop (suc (index_of tab s)) s) ≡ w ∷ q ∷ qs = sym (parts_found tab s h) ∙ e in
    let first : take (index_of tab s) s ≡ w = cc in
    let rest : parts tab (drop (suc (index_of tab s)) s) ≡ q ∷ qs = cc in
    let n : index_of tab s ≡ length w = sym (length-take-le (index_of tab s) s (omega arith)) ∙ ap length first in
    (n, ap (λ (k : ℕ). parts tab (drop (suc k) s)) (sym n) ∙ rest))
    (le_or_lt (length s) (index_of tab s))

pub last_part : (s p : List ℕ) → parts tab s ≡ p ∷ [] → p ≡ s
last_part s p e =
    ⊎_elim
    (λ h. let z : s ∷ [] ≡ p ∷ [] = sym (parts_none tab s h) ∙ e in cc)
    (λ h. absurd (
    let q = parts_some tab (drop (suc (index_of tab s)) s) in
    let z : take (index_of tab s) s ∷ q.0 ∷ q.1.0 ≡ p ∷ [] = ap (λ (r : List (List ℕ)). take (index_of tab s) s ∷ r) (sym q.1.1) ∙ sym (parts_found tab s h) ∙ e in
    let y : ◌≡◌ {A = ℕ} 0 1 = cc in omega arith))
    (le_or_lt (length s) (index_of tab s))

five_parts : (fs : List (List ℕ)) → length fs ≡ 5 → fs ≡ field fs 0 ∷ field fs 1 ∷ field fs 2 ∷ field fs 3 ∷ field fs 4 ∷ []
five_parts (a ∷ b ∷ c ∷ d ∷ e ∷ []) h = refl
five_parts [] h = absurd (omega arith)
five_parts (a ∷ []) h = absurd (omega arith)
five_parts (a ∷ b ∷ []) h = absurd (omega arith)
five_parts (a ∷ b ∷ c ∷ []) h = absurd (omega arith)
five_parts (a ∷ b ∷ c ∷ d ∷ []) h = absurd (omega arith)
five_parts (a ∷ b ∷ c ∷ d ∷ e ∷ f ∷ fs) h = absurd (omega arith)

-- where the tabs of a good line 1 stand
pub record Places (line : List ℕ) : Type 0 where
  pub size : length line ≡ key_line_octets
  pub tab_0 : index_of tab line ≡ length key_word
  pub tab_1 : index_of tab (drop key_at line) ≡ 2 * key_octets
  pub tab_2 : index_of tab (drop key_id_at line) ≡ 1
  pub tab_3 : index_of tab (drop own_at line) ≡ 2 * address_octets

after_tab : (s w q : List ℕ) (qs : List (List ℕ)) (i n j : ℕ) → length w ≡ n → i + suc n ≡ j → parts tab (drop i s) ≡ w ∷ q ∷ qs
    → (index_of tab (drop i s) ≡ n) × (parts tab (drop j s) ≡ q ∷ qs)
after_tab s w q qs i n j l k e =
    let f = first_ends (drop i s) w q qs e in
    (f.0 ∙ l, ap (parts tab) (sym (drop-drop (suc (length w)) i s ∙ ap (λ (m : ℕ). drop m s) (ap (λ (m : ℕ). i + suc m) l ∙ k))) ∙ f.1)

in_parts : (line : List ℕ) → length (fields line) ≡ 5 → parts tab line ≡ fields line
unfolding fields
in_parts line = go (ltb most_line (length line))
  where
    go : (b : Bool) → length (cond b [] (parts tab line)) ≡ 5 → parts tab line ≡ cond b [] (parts tab line)
    go true e = absurd (omega arith)
    go false e = refl

pub places_of : (line : List ℕ) → is_key_line (fields line) ≡ true → Places line
places_of line e =
    let f = key_form (fields line) e in
    let g = fields line in
    let is = in_parts line f.five ∙ five_parts g f.five in
    let p₀ = after_tab line _ _ _ 0 (length key_word) key_at (ap length (same_is (field g 0) key_word f.word)) (omega arith) is in
    let p₁ = after_tab line _ _ _ key_at (2 * key_octets) key_id_at (hex_size key_octets (field g 1) f.key) (omega arith) p₀.1 in
    let p₂ = after_tab line _ _ _ key_id_at 1 own_at (id_size (field g 2) f.id) (omega arith) p₁.1 in
    let p₃ = after_tab line _ _ _ own_at (2 * address_octets) peer_at (hex_size address_octets (field g 3) f.own) (omega arith) p₂.1 in
    let end = ap length (last_part (drop peer_at line) (field g 4) p₃.1) in
    record {
      size = omega (arith, length-drop peer_at line, hex_size address_octets (field g 4) f.peer);
      tab_0 = p₀.0;
      tab_1 = p₁.0;
      tab_2 = p₂.0;
      tab_3 = p₃.0;
    }

-- the part from i to the tab at j
part_to : (s : List ℕ) (i n j : ℕ) → index_of tab (drop i s) ≡ n → i + suc n ≡ j → j ≤ length s → parts tab (drop i s) ≡ take n (drop i s) ∷ parts tab (drop j s)
part_to s i n j e k l =
    parts_found tab (drop i s) (omega (arith, length-drop i s))
    ∙ ap (λ (m : ℕ). take m (drop i s) ∷ parts tab (drop (suc m) (drop i s))) e
    ∙ ap (λ (r : List ℕ). take n (drop i s) ∷ parts tab r) (drop-drop (suc n) i s ∙ ap (λ (m : ℕ). drop m s) k)

pub tabs_of : (line : List ℕ) → Places line → KeyTabs line
unfolding fields
tabs_of line p =
    record {
      size = p.size;
      placed =
          rw (le-ltb most_line (length line) (omega (arith, p.size)))
          (part_to line 0 (length key_word) key_at p.tab_0 (omega arith) (omega (arith, p.size))
          ∙ ap (λ (r : List (List ℕ)). word_part line ∷ r)
          (part_to line key_at (2 * key_octets) key_id_at p.tab_1 (omega arith) (omega (arith, p.size))
          ∙ ap (λ (r : List (List ℕ)). key_part line ∷ r)
          (part_to line key_id_at 1 own_at p.tab_2 (omega arith) (omega (arith, p.size))
          ∙ ap (λ (r : List (List ℕ)). key_id_part line ∷ r) (part_to line own_at (2 * address_octets) peer_at p.tab_3 (omega arith) (omega (arith, p.size))))));
    }

pub never : {A : Type 0} → false ≡ true → A
never e = absurd (let y : ◌≡◌ {A = ℕ} 0 1 = cc in omega arith)

-- where a search of the line from i on finds a tab
module _ (line : List ℕ) (i n : ℕ) (r : List ℕ) (is : r ≡ drop i line) (o : Option.Option ℕ) (found : o ≡ position (λ y. y == tab) r) (b : Bool) (test : b ≡ option_eq eqb o (Some n)) where
  pub found_at : i + n < length line → index_of tab (drop i line) ≡ n → b ≡ true
  found_at l e = test ∙ rw (found, ← answer tab r n (ap (index_of tab) is ∙ e) (omega (arith, ap length is, length-drop i line))) (eq-eqb n n refl)

  pub at_found : b ≡ true → index_of tab (drop i line) ≡ n
  at_found e = ap (index_of tab) (sym is) ∙ (tab_found tab r n (by o (sym test ∙ e) ∙ found)).0
    where
      by : (o : Option.Option ℕ) → option_eq eqb o (Some n) ≡ true → Some n ≡ o
      by None f = never f
      by (Some m) f = ap Some (sym (eqb-true m n f))

-- what digits that write something read as, and what digits that write nothing don't
some_read : (s l : List ℕ) → some l ≡ octets_of s → not (is_none (octets_of s)) ≡ true
some_read s l e = ap (λ (o : Option (List ℕ)). not (is_none o)) (sym e)

none_read : (s : List ℕ) → none ≡ octets_of s → not (is_none (octets_of s)) ≡ false
none_read s e = ap (λ (o : Option (List ℕ)). not (is_none o)) (sym e)

module _ (line : List ℕ) (t : KeyTabs line) where
  abbrev fs : List (List ℕ)
  fs = word_part line ∷ key_part line ∷ key_id_part line ∷ own_part line ∷ parts tab (drop peer_at line)

  form : is_key_line (fields line) ≡ true → KeyForm fs
  form e = key_form fs (ap is_key_line (sym t.placed) ∙ e)

  peer_all : peer_part line ≡ drop peer_at line
  peer_all = take_all (2 * address_octets) (drop peer_at line) (omega (arith, length-drop peer_at line, t.size))

  id_is : key_id_part line ≡ get_or line key_id_at 0 ∷ []
  id_is = ap (take 1) (drop-cons line key_id_at 0 (omega (arith, t.size)))

  pub wrong_word : same (word_part line) key_word ≡ false → is_key_line (fields line) ≡ true → ⊥
  wrong_word b e = never (sym b ∙ (form e).word)

  pub wrong_key : none ≡ octets_of (key_part line) → is_key_line (fields line) ≡ true → ⊥
  wrong_key b e = never (sym (none_read _ b) ∙ hex_read key_octets (field fs 1) (form e).key)

  pub wrong_id : most_key_id < digit (get_or line key_id_at 0) → is_key_line (fields line) ≡ true → ⊥
  unfolding is_key_id
  wrong_id l e = let z = leb-true (digit (get_or line key_id_at 0)) most_key_id (ap is_key_id (sym id_is) ∙ (form e).id) in omega arith

  pub wrong_own : none ≡ octets_of (own_part line) → is_key_line (fields line) ≡ true → ⊥
  wrong_own b e = never (sym (none_read _ b) ∙ hex_read address_octets (field fs 3) (form e).own)

  pub wrong_peer : none ≡ octets_of (peer_part line) → is_key_line (fields line) ≡ true → ⊥
  wrong_peer b e =
      let q = parts_some tab (drop peer_at line) in
      let f = form e in
      let one : q.1.0 ≡ [] = no_more q.1.0 (omega (arith, ap length q.1.1, f.five)) in
      let is : field fs 4 ≡ drop peer_at line = ap (λ (r : List (List ℕ)). field r 0) q.1.1 ∙ last_part (drop peer_at line) q.0 (q.1.1 ∙ ap (λ (r : List (List ℕ)). q.0 ∷ r) one) in
      never (sym (none_read _ b) ∙ ap (λ (s : List ℕ). not (is_none (octets_of s))) (peer_all ∙ sym is) ∙ hex_read address_octets (field fs 4) f.peer)
    where
      no_more : (r : List (List ℕ)) → length r ≡ 0 → r ≡ []
      no_more [] h = refl
      no_more (x ∷ r) h = absurd (omega arith)

  -- a good one
  pub good_line : (k : Keys) → same (word_part line) key_word ≡ true → some k.key ≡ octets_of (key_part line)
      → k.key_id ≡ digit (get_or line key_id_at 0) → k.key_id ≤ most_key_id → some k.own ≡ octets_of (own_part line) → some k.peer ≡ octets_of (peer_part line)
      → (true ≡ is_key_line (fields line)) × Given (fields line) k
  unfolding is_key_id
  good_line k w ke ie il oe pe =
      let pe' : some k.peer ≡ octets_of (drop peer_at line) = pe ∙ ap octets_of peer_all in
      let one = one_field (drop peer_at line) k.peer (sym pe') in
      let is : fields line ≡ word_part line ∷ key_part line ∷ key_id_part line ∷ own_part line ∷ drop peer_at line ∷ []
      = t.placed ∙ ap (λ (r : List (List ℕ)). word_part line ∷ key_part line ∷ key_id_part line ∷ own_part line ∷ r) one in
      let ends = t.size in (
        key_line (fields line) (rw is (record {
          five = refl;
          word = w;
          key = is_hex_lem key_octets (key_part line) (length-take-le (2 * key_octets) (drop key_at line) (omega (arith, length-drop key_at line))) (some_read _ _ ke);
          id = ap is_key_id id_is ∙ le-leb (digit (get_or line key_id_at 0)) most_key_id (omega arith);
          own = is_hex_lem address_octets (own_part line) (length-take-le (2 * address_octets) (drop own_at line) (omega (arith, length-drop own_at line))) (some_read _ _ oe);
          peer = is_hex_lem address_octets (drop peer_at line) (length-drop peer_at line ∙ omega arith) (some_read _ _ pe');
        })),
        rw is (record {
          key_is = ap contents ke;
          key_id_is = ie ∙ ap (λ (s : List ℕ). digit (get_or s 0 0)) (sym id_is);
          own_is = ap contents oe;
          peer_is = ap contents pe';
        }),
      )
