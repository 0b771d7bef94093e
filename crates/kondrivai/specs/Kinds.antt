-- The kinds of buffers, as the code names them.
use Rattle.std.specs.Prelude.{ℕ}
use Rattle.kondrivai.specs.Front.{sender_kind, receiver_kind}
use Rattle.kondrivai.specs.declared.front.Kind.{Kind}
use Rattle.kondrivai.specs.declared.front.Kind.TheVariants.{Sender, Receiver}

abbrev pub kind_octet : Kind → ℕ
kind_octet Sender = sender_kind
kind_octet Receiver = receiver_kind
