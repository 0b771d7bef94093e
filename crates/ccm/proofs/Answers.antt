-- Which outcome is right where, and what it leaves in the output.
use mathlib.Core.Path.{◌≡◌, refl, sym, ap, ap₂, ◌∙◌}
use mathlib.Core.Bool.{Bool, true, false, cond}
use mathlib.Core.List.{List, ◌++◌, append_assoc}
use mathlib.Core.Option.{Option, none, some}
use Prim.Native.Nat.{ℕ, ◌+◌, ◌-◌, ◌≤◌, ◌<◌}
use native.Mathlib.Omega.{arith}
use lib.ListN.{length, take, drop, length-take}
use lib.Seq.{take_at, drop_at, drop-drop}
use borrow.Author.Tests.{le-leb, lt-leb}
use Rattle.std.specs.Prelude.{Some, None}
use Rattle.std.specs.declared.option.Option as program
use Rattle.octets.specs.Octets.{same}
use Rattle.octets.specs.Options.{when}
use Rattle.ccm.specs.Blocks.{BlockCipher}
use Rattle.ccm.specs.Ccm.{masked, U, in_limits, sealed, opened}
use Rattle.ccm.specs.Room.{fitting, outcome, written, Answered}
use Rattle.ccm.proofs.Splitting.{length_masked}
use Rattle.ccm.proofs.Laws.{length_both}

module _ (o : Option (List ℕ)) (room : List ℕ) where
  refused : fitting room o ≡ none → Answered o room None room
  refused e = (ap outcome (sym e), ap (written room) (sym e))

  done : (t after : List ℕ) (n : ℕ) → fitting room o ≡ some t → n ≡ length t → after ≡ t ++ drop n room → Answered o room (Some n) after
  done t after n e l is = (ap Some l ∙ ap outcome (sym e), is ∙ ap (λ (k : ℕ). t ++ drop k room) l ∙ ap (written room) (sym e))

-- a text that the room does not hold
small : (b : Bool) (t room : List ℕ) → length room < length t → fitting room (when b (some t)) ≡ none
small true t room h = rw (lt-leb (length t) (length room) h)
small false t room h = refl

-- the octets ys and then zs, written one after the other into the front of a room
pub put_both : (room ys zs : List ℕ) (n k : ℕ) → length ys ≡ n
    → take n (ys ++ drop n room) ++ (zs ++ drop k (drop n (ys ++ drop n room))) ≡ (ys ++ zs) ++ drop (n + k) room
put_both room ys zs n k ly =
    ap₂ (λ (p q : List ℕ). p ++ (zs ++ drop k q)) (take_at ys (drop n room) n ly) (drop_at ys (drop n room) n ly)
    ∙ ap (λ (q : List ℕ). ys ++ (zs ++ q)) (drop-drop k n room)
    ∙ sym (append_assoc ys zs (drop (n + k) room))

module _ (E : List ℕ → List ℕ) (hE : BlockCipher E) (M : ℕ) (hM : M ≤ 16) (N a room : List ℕ) where
  module _ (m : List ℕ) where
    pub seal_limits : in_limits (length a) (length m) ≡ false → Answered (sealed E M N a m) room None room
    unfolding sealed
    seal_limits h = refused (sealed E M N a m) room (rw h)

    pub seal_small : length room < length m + M → Answered (sealed E M N a m) room None room
    unfolding sealed
    seal_small h =
        refused (sealed E M N a m) room
        (small (in_limits (length a) (length m)) (masked E N 1 m ++ U E M N a m) room (omega (arith, length_both E hE M hM N a m)))

    pub seal_done : in_limits (length a) (length m) ≡ true → length m + M ≤ length room
        → (after : List ℕ) → after ≡ (masked E N 1 m ++ U E M N a m) ++ drop (length m + M) room → Answered (sealed E M N a m) room (Some (length m + M)) after
    unfolding sealed
    seal_done h k after is =
        let t = masked E N 1 m ++ U E M N a m in
        let size = length_both E hE M hM N a m in
        done (sealed E M N a m) room t after (length m + M) (rw (h, le-leb (length t) (length room) (omega arith))) (sym size) is

  module _ (t : List ℕ) where
    pub open_short : length t < M → Answered (opened E M N a t) room None room
    unfolding opened
    open_short h = refused (opened E M N a t) room (rw (lt-leb M (length t) h))

    module _ (long : M ≤ length t) where
      pub open_limits : in_limits (length a) (length t - M) ≡ false → Answered (opened E M N a t) room None room
      unfolding opened
      open_limits h = refused (opened E M N a t) room (rw (le-leb M (length t) long, h))

      length_opened : length (masked E N 1 (take (length t - M) t)) ≡ length t - M
      length_opened = length_masked E hE N 1 (take (length t - M) t) ∙ omega (arith, length-take (length t - M) t)

      module _ (limits : in_limits (length a) (length t - M) ≡ true) where
        pub open_small : length room < length t - M → Answered (opened E M N a t) room None room
        unfolding opened
        open_small k =
            let m = masked E N 1 (take (length t - M) t) in
            refused (opened E M N a t) room
            (rw (le-leb M (length t) long, limits) (small (same (U E M N a m) (drop (length t - M) t)) m room (omega (arith, length_opened))))

        -- the code of the message found right or not
        module _ (r : Bool) (is : r ≡ same (U E M N a (masked E N 1 (take (length t - M) t))) (drop (length t - M) t)) where
          pub open_wrong : r ≡ false → Answered (opened E M N a t) room None room
          unfolding opened
          open_wrong w = refused (opened E M N a t) room (rw (le-leb M (length t) long, limits, sym is ∙ w))

          right : length t - M ≤ length room → r ≡ true → fitting room (opened E M N a t) ≡ some (masked E N 1 (take (length t - M) t))
          unfolding opened
          right k w =
              let m = masked E N 1 (take (length t - M) t) in
              rw (le-leb M (length t) long, limits, sym is ∙ w, le-leb (length m) (length room) (omega (arith, length_opened)))

          pub open_right : length t - M ≤ length room → r ≡ true
              → Answered (opened E M N a t) room (Some (length t - M)) (masked E N 1 (take (length t - M) t) ++ drop (length t - M) room)
          open_right k w =
              let m = masked E N 1 (take (length t - M) t) in
              done (opened E M N a t) room m (m ++ drop (length t - M) room) (length t - M) (right k w) (sym length_opened) refl

-- what is left where a test failed, and where it held
pub left_kept : (r : Bool) (m room left : List ℕ) → r ≡ false → left ≡ cond r m room → left ≡ room
left_kept r m room left w e = e ∙ ap (λ (b : Bool). cond b m room) w

pub left_put : (r : Bool) (m room left : List ℕ) → r ≡ true → left ≡ cond r m room → left ≡ m
left_put r m room left w e = e ∙ ap (λ (b : Bool). cond b m room) w

-- what holds with the cipher F that the code has holds with E
pub by_cipher : (F E : List ℕ → List ℕ) → F ≡ E → (M : ℕ) (N a room t : List ℕ) (r : program.Option ℕ) (after : List ℕ)
    → Answered (opened F M N a t) room r after → Answered (opened E M N a t) room r after
by_cipher F E e M N a room t r after h = rw e at h
