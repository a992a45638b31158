-- "Each answer holds its number, the octets written, and the start and length of a delivered part, zero where not applicable."
use Rattle.std.specs.Prelude.{ℕ, List, [], Bool, ◌&&◌, ◌||◌, leb, Result, Ok, Err}
use Rattle.rules.specs.declared.Number.{Number}
use Rattle.rules.specs.declared.Number.TheVariants as N
use Rattle.rules.specs.declared.Refusal.{Refusal}
use Rattle.rules.specs.declared.Refusal.TheVariants as R
use Rattle.rules.specs.declared.ChannelFault.{ChannelFault}
use Rattle.rules.specs.declared.ChannelFault.TheVariants as C

-- "If an answer is an enum, a definition gives this paper's number and values for each of its cases."
abbrev pub number_of : Number → ℕ
number_of N.BadSettings = 1
number_of N.OutputShort = 2
number_of N.FrameLong = 3
number_of N.CounterFull = 4
number_of N.FrameShort = 10
number_of N.NotTrill = 11
number_of N.NotToUs = 12
number_of N.BadVersion = 13
number_of N.MultiDestination = 14
number_of N.BadIngress = 15
number_of N.BadEgress = 16
number_of N.HopCountZero = 17
number_of N.AreaCut = 18
number_of N.CriticalOption = 20
number_of N.NoNextHop = 21
number_of N.InnerShort = 22
number_of N.BadTag = 23
number_of N.NotToAllEgress = 24
number_of N.NoErrorReply = 25
number_of N.BadErr = 26
number_of N.BadEcho = 27
number_of N.NoEchoReply = 28
number_of N.ForwardedLong = 29
number_of N.ReservedLength = 30
number_of N.OptionCut = 31
number_of N.KeyBelow = 32
number_of N.KeyEqual = 33
number_of N.ChbhMissing = 34
number_of N.CiteMissing = 35
number_of N.FrameEnded = 36
number_of N.BesideShort = 37
number_of N.BadFlags = 38
number_of N.Forwarded = 50
number_of N.Delivered = 51
number_of N.HandedUp = 52
number_of N.ErrorReply = 53
number_of N.EchoReply = 54
number_of N.ErrorHeard = 55
number_of N.EchoHeard = 56

-- the number that a step leaves with, 0 where it goes on
abbrev pub number_by : {A : Type 0} → Result A Number → ℕ
number_by (Ok a) = 0
number_by (Err n) = number_of n

-- the codes that refuse a description
abbrev pub code_of : Refusal → ℕ
code_of R.FileLong = 40
code_of R.FieldCut = 41
code_of R.BadLength = 42
code_of R.OutOfPlace = 43
code_of R.BadValue = 44
code_of R.NicknameMet = 45
code_of R.TooMany = 46
code_of R.SerialMet = 47
code_of R.EntryUnknown = 48
code_of R.TraceShort = 49

-- the code that a step is refused by, 0 where it is not
abbrev pub code_by : {A : Type 0} → Result A Refusal → ℕ
code_by (Ok a) = 0
code_by (Err r) = code_of r

-- the value of ERR that RFC 7178, 3.2, gives a fault
abbrev pub err_of : ChannelFault → ℕ
err_of C.HeaderShort = 1
err_of C.OtherEthertype = 2
err_of C.OtherVersion = 3
err_of C.WrongNative = 4
err_of C.OtherProtocol = 5

-- What one handling comes to. `via` is the neighbour nickname used for what was written, 0 where nothing was.
pub record Handled : Type 0 where
  pub number : ℕ
  pub octets : List ℕ
  pub start : ℕ
  pub size : ℕ
  pub via : ℕ
  -- T-09: "a reply made beside 50", and the neighbour used for it
  pub beside : List ℕ
  pub beside_via : ℕ

-- "The answer's start field gives the option's offset from the options area" (T-02); 0 for every other drop
abbrev pub dropped_at : ℕ → ℕ → Handled
dropped_at number place = record { number = number; octets = []; start = place; size = 0; via = 0; beside = []; beside_via = 0 }

abbrev pub dropped : ℕ → Handled
dropped number = dropped_at number 0

abbrev pub wrote_both : ℕ → List ℕ → ℕ → List ℕ → ℕ → Handled
wrote_both number octets via beside beside_via =
    record { number = number; octets = octets; start = 0; size = 0; via = via; beside = beside; beside_via = beside_via }

abbrev pub wrote : ℕ → List ℕ → ℕ → Handled
wrote number octets via = wrote_both number octets via [] 0

abbrev pub delivered : ℕ → ℕ → ℕ → Handled
delivered number start size = record { number = number; octets = []; start = start; size = size; via = 0; beside = []; beside_via = 0 }

-- T-07: the numbers that the whole call can give
abbrev pub within : ℕ → ℕ → ℕ → Bool
within low high n = leb low n && leb n high

unfoldable pub given : ℕ → Bool
given n = within 1 3 n || within 10 18 n || within 20 35 n || within 37 38 n || within 50 56 n
