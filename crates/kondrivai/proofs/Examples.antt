-- The octets of the example, computed.
use mathlib.Core.Path.{refl}
use Rattle.kondrivai.specs.Numbers.{octets_of, octets_of_each}
use Rattle.kondrivai.specs.Layout1.{sender_octets, receiver_octets}
use Rattle.kondrivai.specs.Examples.{Examples}

pub examples : Examples
unfolding octets_of octets_of_each sender_octets receiver_octets
examples = (refl, refl)
