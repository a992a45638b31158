-- Laws of channel messages over what the code finds, one for each outcome: of the inner tag, of the echo body, of the whole message and of the
-- silence kept.
use mathlib.Core.Path.{◌≡◌}
use mathlib.Core.List.{List}
use mathlib.Core.Bool.{Bool, true, false}
use Prim.Native.Nat.{ℕ, ◌-◌, ◌/◌, ◌%◌, ◌≤◌, ◌<◌}
use borrow.Author.Rules.{rules}
use borrow.Author.Tests.{lt-ltb, le-ltb, ne_eqb}
use lib.Dec.{ltb}
use lib.ListN.{length, take, drop}
use Rattle.rules.specs as rules
use rules.{Octets.be16, Channel.echo_read, Channel.channel_read}
use rules.declared.ChannelRead.{ChannelRead}
use rules.declared.ChannelFault.{ChannelFault}
use rules.declared.ChannelFault.TheVariants.{OtherEthertype, OtherVersion, WrongNative, OtherProtocol}
use rules.declared.ChannelRead.TheVariants.{Fault, BadErr, ErrorHeard}
use Rattle.handler.specs.Shapes.{foreign_by, short_fault}
use Rattle.handler.proofs.Stages.{lent_rest}
use Rattle.rules.proofs.TestLaws.{by_test}

-- a channel message, by its tests in their order
pub read_short : (inner : List ℕ) → length inner < 22 → (x : ChannelFault) → x ≡ short_fault inner → Fault x ≡ channel_read inner
unfolding channel_read
read_short inner h x is = by_test (foreign_by (be16 inner 16)) (λ t. rw (is, t)) (λ t. rw (is, t, lt-ltb (length inner) 22 h))

module _ (inner : List ℕ) (e : ℕ) (is_e : e ≡ be16 inner 16) (b : Bool) (is_b : b ≡ foreign_by e) where
  pub read_foreign : b ≡ true → Fault OtherEthertype ≡ channel_read inner
  unfolding channel_read
  read_foreign t = cc

  module _ (f : b ≡ false) (a : 22 ≤ length inner) (w : ℕ) (is_w : w ≡ be16 inner 18) (v : ℕ) (is_v : v ≡ w / 4096 % 16) where
    long : ltb (length inner) 22 ≡ false
    long = le-ltb (length inner) 22 a

    pub read_version : (v ≡ 0 → ⊥) → Fault OtherVersion ≡ channel_read inner
    unfolding channel_read
    read_version n = cc (long, ne_eqb v 0 n)

    module _ (z : v ≡ 0) (g : ℕ) (is_g : g ≡ be16 inner 20) (n : ℕ) (is_n : n ≡ g / 8192 % 2) where
      pub read_native : n ≡ 1 → Fault WrongNative ≡ channel_read inner
      unfolding channel_read
      read_native one = cc long

      module _ (o : n ≡ 1 → ⊥) (p : ℕ) (is_p : p ≡ w % 4096) where
        pub read_error : p ≡ 0x001 → ErrorHeard ≡ channel_read inner
        unfolding channel_read
        read_error its = cc (long, ne_eqb n 1 o)

        pub read_unknown : (p ≡ 0x001 → ⊥) → (p ≡ 0xFF8 → ⊥) → Fault OtherProtocol ≡ channel_read inner
        unfolding channel_read
        read_unknown h k = cc (long, ne_eqb n 1 o, ne_eqb p 0x001 h, ne_eqb p 0xFF8 k)

        module _ (echo : p ≡ 0xFF8) (k : ℕ) (is_k : k ≡ g % 16) where
          pub read_err : (k ≡ 0 → ⊥) → BadErr ≡ channel_read inner
          unfolding channel_read
          read_err h = cc (long, ne_eqb n 1 o, ne_eqb k 0 h)

          pub read_echo : k ≡ 0 → (r : ChannelRead) → r ≡ echo_read (take (length inner - 22) (drop 22 inner)) → r ≡ channel_read inner
          unfolding channel_read
          read_echo none r is = cc (long, ne_eqb n 1 o, lent_rest inner 22)

pub ruleset channel_read_laws = (rules, read_foreign, read_short, read_version, read_native, read_error, read_unknown, read_err, read_echo)
