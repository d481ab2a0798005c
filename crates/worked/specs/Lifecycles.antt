-- 01, Checked on the floor: "Confirmed at default timeouts: age 500,000,000 stays, 500,000,001 is Lost, 2,000,000,001 drops in one call."
-- "Sensors 1, 2 with limit 2: adding 3 gives 2, 3; adding 1 instead changes nothing."
use Rattle.std.specs.Prelude.{List, [], ◌∷◌, pos, None, Some}
use Rattle.lifecycle.specs.declared.TrackLifecycleState.TheVariants.{Confirmed, Lost}
use Rattle.lifecycle.specs.declared.TrackLifecycle.{TrackLifecycle}
use Rattle.lifecycle.specs.Lifecycle.{with_state, advanced_of}
use Rattle.lifecycle.specs.Sensors.{recorded_of}
use Rattle.settings.specs.Settings.{default_lifecycle}
use Rattle.worked.specs.Case.{Case, case}

-- made and last observed at time 0
abbrev confirmed : TrackLifecycle
confirmed = record { state = Confirmed; created_at = pos 0; last_observation = Some (pos 0); last_counted = Some (pos 0); observation_times = 2 }

abbrev pub lifecycle_cases : List Case
lifecycle_cases =
    case (advanced_of confirmed (pos 500000000) default_lifecycle) (Some confirmed)
    ∷ case (advanced_of confirmed (pos 500000001) default_lifecycle) (Some (with_state Lost confirmed))
    ∷ case (advanced_of confirmed (pos 2000000001) default_lifecycle) None
    ∷ case (recorded_of (1 ∷ 2 ∷ []) 3 2) (2 ∷ 3 ∷ [])
    ∷ case (recorded_of (1 ∷ 2 ∷ []) 1 2) (1 ∷ 2 ∷ [])
    ∷ []
