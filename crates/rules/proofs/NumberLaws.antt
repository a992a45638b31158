-- Every answer's number is above 0. By cases.
use mathlib.Core.Path.{◌≡◌}
use specs.Answer.{number_of}
use specs.declared.Number.{Number}
use specs.declared.Number.TheVariants as N
use Rattle.rules.proofs.TestLaws.{apart}
use Rattle.rules.specs

pub number_some : (n : Number) → number_of n ≡ 0 → ⊥
number_some N.BadSettings e = apart (cc e)
number_some N.OutputShort e = apart (cc e)
number_some N.FrameLong e = apart (cc e)
number_some N.CounterFull e = apart (cc e)
number_some N.FrameShort e = apart (cc e)
number_some N.NotTrill e = apart (cc e)
number_some N.NotToUs e = apart (cc e)
number_some N.BadVersion e = apart (cc e)
number_some N.MultiDestination e = apart (cc e)
number_some N.BadIngress e = apart (cc e)
number_some N.BadEgress e = apart (cc e)
number_some N.HopCountZero e = apart (cc e)
number_some N.AreaCut e = apart (cc e)
number_some N.CriticalOption e = apart (cc e)
number_some N.NoNextHop e = apart (cc e)
number_some N.InnerShort e = apart (cc e)
number_some N.BadTag e = apart (cc e)
number_some N.NotToAllEgress e = apart (cc e)
number_some N.NoErrorReply e = apart (cc e)
number_some N.BadErr e = apart (cc e)
number_some N.BadEcho e = apart (cc e)
number_some N.NoEchoReply e = apart (cc e)
number_some N.ForwardedLong e = apart (cc e)
number_some N.ReservedLength e = apart (cc e)
number_some N.OptionCut e = apart (cc e)
number_some N.KeyBelow e = apart (cc e)
number_some N.KeyEqual e = apart (cc e)
number_some N.ChbhMissing e = apart (cc e)
number_some N.CiteMissing e = apart (cc e)
number_some N.FrameEnded e = apart (cc e)
number_some N.BesideShort e = apart (cc e)
number_some N.BadFlags e = apart (cc e)
number_some N.Forwarded e = apart (cc e)
number_some N.Delivered e = apart (cc e)
number_some N.HandedUp e = apart (cc e)
number_some N.ErrorReply e = apart (cc e)
number_some N.EchoReply e = apart (cc e)
number_some N.ErrorHeard e = apart (cc e)
number_some N.EchoHeard e = apart (cc e)
