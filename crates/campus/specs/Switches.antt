-- The switches of an accepted description: what the run sees of their stores.
use Rattle.std.specs.Prelude.{ℕ, ◌<◌, ◌≤◌, List, length, Option}
use Rattle.rules.specs.Settings.{Settings}
use Rattle.campus.specs.Stores.{settings_at, switches_in, number_in, Started, SoundAt}
use Rattle.campus.specs.declared.switches.Switches.{Switches}

-- one, and all, the latest first
abbrev pub switch_at : Switches → ℕ → Settings
switch_at sw i = settings_at sw.words.now sw.starts.now i

abbrev pub all_of : Switches → List Settings
all_of sw = switches_in sw.words.now sw.starts.now (length sw.starts.now)

-- the latest that has a nickname
abbrev pub number_of : Switches → ℕ → Option ℕ
number_of sw nickname = number_in sw.words.now sw.starts.now (length sw.starts.now) nickname

-- each store starts among the words
abbrev pub IsStarted : Switches → Type 0
IsStarted sw = Started sw.words.now sw.starts.now (length sw.starts.now)

-- one whose store is good and says what its settings do, and 16 such at most
abbrev pub IsSoundAt : Switches → ℕ → Type 0
IsSoundAt sw i = SoundAt sw.words.now sw.starts.now i

pub record IsSound (sw : Switches) : Type 0 where
  pub started : IsStarted sw
  pub each : (i : ℕ) → i < length sw.starts.now → IsSoundAt sw i
  pub few : length sw.starts.now ≤ 16
