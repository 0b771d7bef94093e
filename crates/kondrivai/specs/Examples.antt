-- docs/LAYOUT.md, "An example": a sender and a receiver, and their octets as printed there.
use Rattle.std.specs.Prelude.{◌≡◌, List, [], ◌∷◌, ◌++◌, ℕ, replicate}
use Rattle.rules.specs.declared.Sender.{Sender}
use Rattle.rules.specs.declared.Receiver.{Receiver}
use Rattle.kondrivai.specs.Layout1.{sender_octets, receiver_octets}

abbrev key : List ℕ
key =
    0x40 ∷ 0x41 ∷ 0x42 ∷ 0x43 ∷ 0x44 ∷ 0x45 ∷ 0x46 ∷ 0x47 ∷ 0x48 ∷ 0x49 ∷ 0x4a ∷ 0x4b ∷ 0x4c ∷ 0x4d ∷ 0x4e ∷ 0x4f ∷ []

abbrev camera : List ℕ
camera = 0x02 ∷ 0x00 ∷ 0x00 ∷ 0x00 ∷ 0x00 ∷ 0x01 ∷ []

abbrev pub sender : Sender
sender = record { key = key; key_id = 2; address = camera; last = 0x010203040506 }

-- in priority 6 that number was opened, the one before it, and the one 15 below
abbrev pub receiver : Receiver
receiver =
    record {
      key = key;
      key_id = 2;
      peer = camera;
      size = 16;
      replay = replicate 6 0 ++ (0x010203040506 ∷ replicate 9 0);
      seen = replicate 6 0 ++ (0x8003 ∷ replicate 9 0);
      counts = record { format_errors = 1; replays = 2; decrypt_errors = 3; opened = 0x0104 };
    }

abbrev number : List ℕ
number = 0x06 ∷ 0x05 ∷ 0x04 ∷ 0x03 ∷ 0x02 ∷ 0x01 ∷ []

abbrev counts : List ℕ
counts = 1 ∷ 0 ∷ 0 ∷ 0 ∷ 2 ∷ 0 ∷ 0 ∷ 0 ∷ 3 ∷ 0 ∷ 0 ∷ 0 ∷ 4 ∷ 1 ∷ 0 ∷ 0 ∷ []

abbrev pub Examples : Type 0
Examples =
    (sender_octets sender ≡ 0x53 ∷ 0x01 ∷ 0x02 ∷ camera ++ (key ++ number))
    × (receiver_octets receiver
    ≡ 0x52 ∷ 0x01 ∷ 0x02 ∷ 0x10 ∷ camera ++ (key ++ (counts ++ (replicate 36 0 ++ (number ++ (replicate 54 0 ++ (replicate 12 0 ++ (0x03 ∷ 0x80 ∷ replicate 18 0))))))))
