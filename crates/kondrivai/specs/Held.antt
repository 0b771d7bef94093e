-- What a buffer holds, where it holds a record. No public contract cites this.
use Rattle.std.specs.Prelude.{Option, Some, None, List, ℕ, cond}
use Rattle.rules.specs.declared.Sender.{Sender}
use Rattle.rules.specs.declared.Receiver.{Receiver}
use Rattle.kondrivai.specs.Layout1.{is_sender, sender_in, is_receiver, receiver_in}

abbrev pub held_sender : List ℕ → Option Sender
held_sender b = cond (is_sender b) (Some (sender_in b)) None

abbrev pub held_receiver : List ℕ → Option Receiver
held_receiver b = cond (is_receiver b) (Some (receiver_in b)) None
