-- The mode as the frame rules see it, RFC 3610's CCM over FIPS 197's AES-128: a text from a body, a body from a text, and what a text adds.
use Rattle.std.specs.Prelude.{List, ℕ, ◌+◌}
use Rattle.std.proofs.Math.Option.{Option}
use Rattle.aes.specs.KeyExpansion.{aes128}
use Rattle.ccm.specs.Limits as ccm
use Rattle.ccm.specs.Ccm.{sealed, opened}
use Rattle.rules.specs.Limits.{ccmp_octets}

-- the octets of the integrity code
abbrev pub code_octets : ℕ
code_octets = ccm.code_octets

-- the octets that sealing adds to a frame: the CCMP header and the code
abbrev pub added : ℕ
added = ccmp_octets + code_octets

-- the body m encrypted and its code, under a key, the nonce N and the authenticated data a
unfoldable pub sealed_text : List ℕ → List ℕ → List ℕ → List ℕ → Option (List ℕ)
sealed_text key N a m = sealed (aes128 key) code_octets N a m

-- the body of the text t, where its code is right
unfoldable pub opened_body : List ℕ → List ℕ → List ℕ → List ℕ → Option (List ℕ)
opened_body key N a t = opened (aes128 key) code_octets N a t
