-- A frame cut by places in it, as the code goes through it. No public contract cites this.
use Rattle.std.specs.Prelude.{◌≡◌, List, ◌++◌, ℕ, ◌+◌, ◌-◌, ◌<◌, ◌≤◌, ltb, length, take}
use Rattle.rules.specs.Limits.{most_fragments}
use Rattle.rules.specs.Header.{header_length, part, set_fragment}
use Rattle.rules.specs.Mode.{added}
use Rattle.rules.specs.Counts.{bit}
use Rattle.rules.specs.Sealing.{Sealable}
use Rattle.rules.specs.Splitting.{Fit, message}
use Rattle.rules.specs.declared.Sender.{Sender}

-- the header of f ends at h, and the message after it can be cut at a size
pub record Cut (size : ℕ) (f : List ℕ) (h : ℕ) : Type 0 where
  pub header : h ≡ header_length f
  pub whole : header_length f ≤ length f
  pub fit : Fit size (length (message f))

-- fragment i of f, with the octets from `at` to `end`
unfoldable pub fragment_with : List ℕ → ℕ → ℕ → ℕ → ℕ → List ℕ
fragment_with f h i at end = set_fragment (take h f) (bit (ltb end (length f))) i ++ part f at (end - at)

-- the sender s seals it, in a room of so many octets
pub record Puts (s : Sender) (f : List ℕ) (h i at end room : ℕ) : Type 0 where
  pub header : h ≡ header_length f
  pub inside : h ≤ length f
  pub numbered : i < most_fragments
  pub begins : at ≤ end
  pub ends : end ≤ length f
  pub sealable : Sealable s (fragment_with f h i at end)
  pub exact : header_length (fragment_with f h i at end) ≡ h
  pub enough : length (fragment_with f h i at end) + added ≤ room
