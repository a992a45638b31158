-- The ranks of the records met so far, and the filter that stands for them: how settings are validated in one pass.
use Rattle.std.specs.Prelude.{Option, Some, None, ℕ, ◌+◌, ◌*◌, ◌/◌, ◌%◌, ◌≡◌, List, [], ◌∷◌, ◌++◌, Bool, true, false, not, ◌&&◌, ◌||◌, length, get_or, take, ltb, eqb, if◌then◌else◌}
use Rattle.rules.specs.Fields.{Field, field, cut, fields_at, hop_size}
use Rattle.rules.specs.Settings.{Settings, Ways, hop_good, hop_of, hops_most, settings_from, settings_of}
use Rattle.rules.specs.Campus.{known}
use Rattle.rules.specs.declared.NextHop.{NextHop}
use Rattle.octets.specs.Flags.{flag_by}
use Rattle.handler.specs.declared.validation.Scan.{Scan}
use Rattle.handler.specs.declared.validation.Validated.{Validated}
use Rattle.handler.specs.Shapes.{switch_at, ruled_by, no_flags, flagged_by, FoldedFrom}

-- destination above serial: two records of one destination with equal serials have one rank
abbrev pub rank_of : NextHop → ℕ
rank_of hop = hop.destination * 4294967296 + hop.serial

-- the filter: a rank has a slot among 256 and a mark; a slot has no mark, the mark of the one rank there, or 255
unfoldable pub mix_of : ℕ → ℕ
mix_of rank = rank / 4294967296 * 0x85EBCA6B + rank % 4294967296 * 0x9E3779B1

unfoldable pub slot_by : ℕ → ℕ
slot_by mixed = mixed / 16777216 % 256

unfoldable pub mark_by : ℕ → ℕ
mark_by mixed = mixed / 65536 % 128 + 1

unfoldable pub marked_by : ℕ → ℕ → ℕ
marked_by old mark = if eqb old 0 then mark else 255

-- whether a slot may have a rank of this mark
unfoldable pub covers_by : ℕ → ℕ → Bool
covers_by old mark = eqb old mark || eqb old 255

unfoldable pub rank_met : ℕ → List ℕ → Bool
rank_met rank [] = false
rank_met rank (k ∷ ranks) = eqb k rank || rank_met rank ranks

-- the ranks of the records among fields, and the first n of those from a place on
unfoldable pub ranks_in : List Field → List ℕ
ranks_in [] = []
ranks_in (cut ∷ fs) = ranks_in fs
ranks_in (field tag v ∷ fs) = if eqb tag 2 then rank_of (hop_of v) ∷ ranks_in fs else ranks_in fs

abbrev pub ranks_met : List ℕ → ℕ → ℕ → List ℕ
ranks_met s from n = take n (ranks_in (fields_at s from))

-- the slot of each rank met may have it
pub record Kept (met seen : List ℕ) : Type 0 where
  pub seen_long : length seen ≡ 256
  pub marked : (rank : ℕ) → rank_met rank met ≡ true → covers_by (get_or seen (slot_by (mix_of rank)) 0) (mark_by (mix_of rank)) ≡ true

-- whether one more record, or field, goes with the n ranks met so far
unfoldable pub hop_taken : List ℕ → ℕ → ℕ → NextHop → Bool
hop_taken ranks n size r = hop_size size && (hop_good r && ltb n hops_most && not (rank_met (rank_of r) ranks))

unfoldable pub field_taken : List ℕ → ℕ → ℕ → List ℕ → Bool
field_taken ranks n tag v = if eqb tag 2 then hop_taken ranks n (length v) (hop_of v) else eqb (flag_by tag v) 0

-- the ranks met once one more record, or field, is taken
abbrev pub with_rank : List ℕ → NextHop → List ℕ
with_rank ranks r = ranks ++ (rank_of r ∷ [])

unfoldable pub ranks_with : List ℕ → ℕ → List ℕ → List ℕ
ranks_with ranks tag v = if eqb tag 2 then with_rank ranks (hop_of v) else ranks

-- whether a record is taken; then these ranks are met
pub record Taking (good : Bool) (met : List ℕ) (taken : Bool) (seen : List ℕ) : Type 0 where
  pub validated : good ≡ taken
  pub kept : taken ≡ true → Kept met seen

-- r: whether the fields from a place on go with settings that have no records yet
abbrev pub Verdict : List ℕ → ℕ → Bool → Type 0
Verdict s from r = (T : Settings) → T.hops ≡ [] → r ≡ known (settings_from T (fields_at s from))

-- one pass over the fields from a place on: the verdict, and what the fields say if they are good
pub record ScanFinds (s : List ℕ) (from d : ℕ) (x : Scan) : Type 0 where
  pub verdict : Verdict s from true
  pub ruled : FoldedFrom (ruled_by d) None s from x.best
  pub flagged : FoldedFrom flagged_by no_flags s from x.flags

abbrev pub Scanned : List ℕ → ℕ → ℕ → Option Scan → Type 0
Scanned s from d None = Verdict s from false
Scanned s from d (Some x) = ScanFinds s from d x

-- what settings say of one destination
pub record Says (S : Ways) (d : ℕ) (found : Validated) : Type 0 where
  pub strips : found.strip ≡ S.strip
  pub edition : found.rfc7179 ≡ S.rfc7179
  pub leads : found.hop ≡ S.hop d

-- settings octets validated, and what they say of one destination if they are good
pub record Validates (s : List ℕ) (d : ℕ) (found : Validated) : Type 0 where
  pub good : known (settings_of s) ≡ true
  pub says : Says (switch_at s) d found

abbrev pub ValidatedBy : List ℕ → ℕ → Option Validated → Type 0
ValidatedBy s d None = known (settings_of s) ≡ false
ValidatedBy s d (Some found) = Validates s d found
