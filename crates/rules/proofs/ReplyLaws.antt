-- Laws of the two replies: they read back behind any link header, with hop count 63, and nothing answers one: an error is heard as an
-- error, an echo reply as an echo reply. By computation on the octets written.
use Rattle.std.specs.Prelude.{Ok}
use mathlib.Core.Path.{◌≡◌, refl}
use mathlib.Core.List.{List, [], ◌++◌}
use mathlib.Core.Bool.{true}
use Prim.Native.Nat.{ℕ, ◌+◌, ◌/◌, ◌<◌, ◌≤◌}
use native.Mathlib.Omega.{arith}
use borrow.Author.Tests.{le-ltb, ne_eqb}
use lib.ListN.{length, length-append, length-take, length-drop}
use Rattle.rules.specs
use specs.{Octets.be16, Settings.Ways, Link.link, Header.read_frame, Header.inner_of}
use specs.Channel.{protocol_error, protocol_echo, protocol, na, spid, spid_reply, echo_read, channel_read, silenced, reply_inner, reply_rest, echo_body}
use specs.declared.{NextHop.NextHop, Header.Header}
use specs.declared.ChannelRead.TheVariants.{ErrorHeard, EchoHeard}
use Rattle.rules.proofs
use proofs.TestLaws.{tests, by_equal, or_yes}
use proofs.FrameLaws.{IsLink, read_with_header, inner_with_header}

module _ (S : Ways) (own : S.nickname < 65536) {ingress : ℕ} (hi : ingress < 65536) (number code : ℕ) (body : List ℕ) {l : List ℕ} (is : IsLink l) where
  abbrev pub reply_header : Header
  reply_header = record { place = length l; word = 0x003F; egress = ingress; ingress = S.nickname }

  pub reply_read : read_frame (l ++ reply_rest S ingress number code body) ≡ Ok reply_header
  unfolding reply_rest
  reply_read = read_with_header is (omega arith) hi own (reply_inner S number code body)

  pub reply_inner_lem : inner_of (l ++ reply_rest S ingress number code body) reply_header ≡ reply_inner S number code body
  unfolding reply_rest
  reply_inner_lem = inner_with_header l reply_header [] (reply_inner S number code body) refl refl

-- an error that was written is heard as an error
pub error_heard : (S : Ways) (code : ℕ) (body : List ℕ) → code < 16 → channel_read (reply_inner S protocol_error code body) ≡ ErrorHeard
unfolding reply_inner channel_read
error_heard S code body h =
    let i = reply_inner S protocol_error code body in
    let flags : be16 i 20 ≡ 0xC000 + code = omega arith in
    let high : (0xC000 + code) / 8192 ≡ 6 = omega arith in
    simp (le-ltb (length i) 22 (omega arith), ne_eqb (na i) 1 (rw (flags, high) (omega arith)))

-- an echo reply that was written is heard as an echo reply
pub echo_heard : (S : Ways) (body : List ℕ) → 18 ≤ length body → length body ≤ 530 → spid body ≡ spid_reply
    → channel_read (reply_inner S protocol_echo 0 body) ≡ EchoHeard
unfolding reply_inner channel_read echo_read
echo_heard S body h k e =
    simp (le-ltb (length (reply_inner S protocol_echo 0 body)) 22 (omega arith), tests, e)

-- an echo body answered: as long, with SPID 4
pub echo_body_length : (body clock : List ℕ) → 18 ≤ length body → length clock ≡ 6 → length (echo_body body clock) ≡ length body
unfolding echo_body
echo_body_length body clock h c =
    rw (length-append, length-append, length-take, length-drop 1 body, length-drop 18 body, c) (omega arith)

pub echo_body_spid : (body clock : List ℕ) → spid (echo_body body clock) ≡ spid_reply
unfolding echo_body
echo_body_spid body clock = omega arith

-- "Answering an error with an error": for codes 4 and 5 none is made
pub error_unanswered : (code : ℕ) (inner : List ℕ) → 4 ≤ code → code ≤ 5 → protocol inner ≡ protocol_error → silenced code inner ≡ true
unfolding silenced
error_unanswered code inner h k e =
    by_equal code 4 (λ is. simp (tests, e, or_yes)) (λ n. let is : code ≡ 5 = omega arith in simp (tests, e, or_yes))

pub length_reply : (S : Ways) (r : NextHop) (ingress number code : ℕ) (body : List ℕ)
    → length (link S r ++ reply_rest S ingress number code body) ≡ length (link S r) + 28 + length body
unfolding reply_rest reply_inner
length_reply S r ingress number code body = rw (length-append (link S r)) (omega arith)
