use Rattle.std.proofs.Common.{◌≡◌, ℕ, ◌<◌, true}
use Rattle.rules.specs.Windows.{sound_window}
use Rattle.rules.specs.Records.{window_of}
use Rattle.ccmp.proofs.window.sound_windows.Given as goal

-- The loop passes the windows that are sound, and returns at the first that isn't.
abbrev pub invariant-loop-p : goal.invariant-loop-p
invariant-loop-p l = (k : ℕ) → k < l.p → sound_window (window_of l.r k) ≡ true
