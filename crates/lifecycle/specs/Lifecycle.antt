-- The life of a track over integer times. 01, Lifecycle; where it is silent, the Rust's lifecycle.rs.
use Rattle.std.specs.Prelude.{ℕ, max, min, ◌+◌, ◌-◌, ◌^◌, cond, leb, ℤ, None, Option, Some}
use Rattle.std.specs.Int.Signed.{lt_z}
use Rattle.number.specs.Time.{age_of, same_time}
use Rattle.lifecycle.specs.declared.TrackLifecycleState.{TrackLifecycleState}
use Rattle.lifecycle.specs.declared.TrackLifecycleState.TheVariants.{Tentative, Confirmed, Lost, Deleted}
use Rattle.lifecycle.specs.declared.TrackLifecycle.{TrackLifecycle}
use Rattle.lifecycle.specs.declared.LifecycleConfig.{LifecycleConfig}
use Rattle.lifecycle.specs.declared.Verdict.{Verdict}
use Rattle.lifecycle.specs.declared.Verdict.TheVariants as verdict
use Rattle.lifecycle.specs.declared.AgedLifecycle.{AgedLifecycle}

abbrev pub new_of : ℤ → TrackLifecycle
new_of t = record { state = Tentative; created_at = t; last_observation = None; last_counted = None; observation_times = 0 }

abbrev pub with_state : TrackLifecycleState → TrackLifecycle → TrackLifecycle
with_state s l =
    record { state = s; created_at = l.created_at; last_observation = l.last_observation; last_counted = l.last_counted; observation_times = l.observation_times }

-- ---- observations

-- "One time is counted once, however many detections bear it; a count at its largest stays there."
abbrev pub more : ℕ → ℕ
more n = min (n + 1) (2 ^ 32 - 1)

unfoldable pub counted_of : Option ℤ → ℤ → ℕ → ℕ
counted_of None time n = more n
counted_of (Some t) time n = cond (same_time t time) n (more n)

-- a tentative life seen at enough times is confirmed
unfoldable pub matured : TrackLifecycleState → ℕ → ℕ → TrackLifecycleState
matured Tentative n enough = cond (leb enough n) Confirmed Tentative
matured Confirmed n enough = Confirmed
matured Lost n enough = Lost
matured Deleted n enough = Deleted

-- the same for a life that is seen now: one that was lost is confirmed again
unfoldable pub observed : TrackLifecycleState → ℕ → ℕ → TrackLifecycleState
observed Tentative n enough = matured Tentative n enough
observed Confirmed n enough = Confirmed
observed Lost n enough = Confirmed
observed Deleted n enough = Deleted

unfoldable pub registered_of : TrackLifecycle → ℤ → LifecycleConfig → TrackLifecycle
registered_of l time c =
    record {
      state = observed l.state (counted_of l.last_counted time l.observation_times) c.confirm_min_observation_times;
      created_at = l.created_at;
      last_observation = Some time;
      last_counted = Some time;
      observation_times = counted_of l.last_counted time l.observation_times;
    }

-- earlier sightings count towards confirmation
unfoldable pub credited_of : TrackLifecycle → ℕ → LifecycleConfig → TrackLifecycle
credited_of l n c =
    record {
      state = matured l.state (max l.observation_times n) c.confirm_min_observation_times;
      created_at = l.created_at;
      last_observation = l.last_observation;
      last_counted = l.last_counted;
      observation_times = max l.observation_times n;
    }

-- ---- time

-- "Age is now minus last observation (or creation)"
abbrev pub latest : Option ℤ → ℤ → ℤ
latest None t = t
latest (Some s) t = s

abbrev pub reference_of : TrackLifecycle → ℤ
reference_of l = latest l.last_observation l.created_at

-- "Tentative drops, Confirmed becomes Lost, Lost drops, only when age is strictly above its timeout": one step
unfoldable pub next : LifecycleConfig → ℤ → TrackLifecycleState → TrackLifecycleState
next c age Tentative = cond (lt_z c.tentative_timeout_ns age) Deleted Tentative
next c age Confirmed = cond (lt_z c.confirmed_to_lost_ns age) Lost Confirmed
next c age Lost = cond (lt_z c.lost_to_delete_ns age) Deleted Lost
next c age Deleted = Deleted

-- "`advance` repeats until nothing changes": two steps are enough (`settled-stays` of proofs/Steps.antt)
unfoldable pub settled : LifecycleConfig → ℤ → TrackLifecycleState → TrackLifecycleState
settled c age s = next c age (next c age s)

abbrev pub verdict_of : TrackLifecycleState → Verdict
verdict_of Tentative = verdict.Kept
verdict_of Confirmed = verdict.Kept
verdict_of Lost = verdict.Kept
verdict_of Deleted = verdict.Dropped

-- the record as it is left, and whether it is kept
unfoldable pub aged_of : TrackLifecycle → ℤ → LifecycleConfig → AgedLifecycle
aged_of l now c =
    record {
      lifecycle = with_state (settled c (age_of now (reference_of l)) l.state) l;
      verdict = verdict_of (settled c (age_of now (reference_of l)) l.state);
    }

abbrev pub kept_if : Verdict → TrackLifecycle → Option TrackLifecycle
kept_if verdict.Kept l = Some l
kept_if verdict.Dropped l = None

unfoldable pub advanced_of : TrackLifecycle → ℤ → LifecycleConfig → Option TrackLifecycle
advanced_of l now c = kept_if (aged_of l now c).verdict (aged_of l now c).lifecycle
