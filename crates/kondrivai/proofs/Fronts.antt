-- What the front tells of a buffer.
use mathlib.Core.Path.{◌≡◌, ap, ap₂, ◌∙◌}
use mathlib.Core.Logic.{◌≢◌}
use mathlib.Core.Bool.{true, false, ◌&&◌}
use mathlib.Core.List.{List, ◌∷◌}
use Prim.Native.Nat.{ℕ, ◌≤◌}
use native.Mathlib.Omega.{arith}
use borrow.Author.Tests.{eqb-true, ne_eqb}
use lib.Dec.{eqb, leb}
use lib.ListN.{length, get_or, drop}
use lib.Seq.{drop-cons}
use Rattle.octets.proofs.Booleans.{both}
use Rattle.rules.specs.Limits.{most_key_id}
use Rattle.rules.specs.Records.{receiver_fits}
use Rattle.kondrivai.specs.Front.{front_octets, sender_kind, receiver_kind, kind_in, layout_in, is_of}
use Rattle.kondrivai.specs.Layout1.{layout, sender_size, is_sender, receiver_size, is_receiver}

-- a buffer of a kind, a layout and a length has these
module _ (kind layout size : ℕ) (b : List ℕ) (is : is_of kind layout size b ≡ true) where
  pub of_size : length b ≡ size
  of_size = eqb-true (length b) size (both (eqb (length b) size) (eqb (kind_in b) kind && eqb (layout_in b) layout) is).0

  front : (eqb (kind_in b) kind ≡ true) × (eqb (layout_in b) layout ≡ true)
  front = both (eqb (kind_in b) kind) (eqb (layout_in b) layout) (both (eqb (length b) size) (eqb (kind_in b) kind && eqb (layout_in b) layout) is).1

  pub of_kind : kind_in b ≡ kind
  of_kind = eqb-true (kind_in b) kind front.0

  pub of_layout : layout_in b ≡ layout
  of_layout = eqb-true (layout_in b) layout front.1

  pub of_front : front_octets ≤ size → b ≡ kind ∷ layout ∷ drop front_octets b
  of_front l =
      drop-cons b 0 0 (omega (arith, of_size))
      ∙ ap₂ (λ (k : ℕ) (t : List ℕ). k ∷ t) of_kind (drop-cons b 1 0 (omega (arith, of_size)) ∙ ap (λ (k : ℕ). k ∷ drop front_octets b) of_layout)

-- the same of a buffer that holds a record, and what its fields have to be
pub sender_is : (b : List ℕ) → is_sender b ≡ true → (is_of sender_kind layout sender_size b ≡ true) × (leb (get_or b 2 0) most_key_id ≡ true)
unfolding is_sender
sender_is b is = both (is_of sender_kind layout sender_size b) (leb (get_or b 2 0) most_key_id) is

pub receiver_is : (b : List ℕ) → is_receiver b ≡ true
    → (is_of receiver_kind layout receiver_size b ≡ true) × (receiver_fits (get_or b 2 0) (get_or b 3 0) ≡ true)
unfolding is_receiver
receiver_is b is = both (is_of receiver_kind layout receiver_size b) (receiver_fits (get_or b 2 0) (get_or b 3 0)) is

pub sender_size_lem : (b : List ℕ) → is_sender b ≡ true → length b ≡ sender_size
sender_size_lem b is = of_size sender_kind layout sender_size b (sender_is b is).0

pub receiver_size_lem : (b : List ℕ) → is_receiver b ≡ true → length b ≡ receiver_size
receiver_size_lem b is = of_size receiver_kind layout receiver_size b (receiver_is b is).0

-- and one of another length holds none
pub no_sender : (b : List ℕ) → length b ≢ sender_size → is_sender b ≡ false
unfolding is_sender
no_sender b h = rw (ne_eqb (length b) sender_size h)

pub no_receiver : (b : List ℕ) → length b ≢ receiver_size → is_receiver b ≡ false
unfolding is_receiver
no_receiver b h = rw (ne_eqb (length b) receiver_size h)
