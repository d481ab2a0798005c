-- A sequence of batches by hand, under the default settings: one detection begins track 1, a second batch confirms it, a third 500,000,001 ns later finds it Lost, one 2,000,000,001 ns
-- later finds it gone; a far detection beside it changes nothing in its life (that it changes no bit of it is the guarantee).
use Rattle.std.specs.Prelude.{ℕ, List, [], ◌∷◌, map, pos, None}
use Rattle.lifecycle.specs.declared.TrackLifecycleState.{TrackLifecycleState}
use Rattle.lifecycle.specs.declared.TrackLifecycleState.TheVariants.{Tentative, Confirmed, Lost}
use Rattle.settings.specs.Settings.{default_settings}
use Rattle.types.specs.declared.track.Track3D.{Track3D}
use Rattle.types.specs.Fresh.{fresh_state}
use Rattle.calls.specs.Run.{Call, process_batch, run}
use Rattle.recorded.specs.Edges.{seen, batch}
use Rattle.worked.specs.Case.{Case, case}

pub record Life : Type 0 where
  pub number : ℕ
  pub state : TrackLifecycleState
  pub times : ℕ

abbrev life_of : Track3D → Life
life_of t = record { number = t.id; state = t.lifecycle.state; times = t.lifecycle.observation_times }

abbrev lives_after : List Call → List Life
lives_after calls = map life_of (run default_settings calls fresh_state).tracks

-- at the origin, at the time 0 and a tenth of a second later
abbrev once : Call
once = process_batch (batch 1 (pos 0) (seen 0 None ∷ []) 1)

abbrev again : Call
again = process_batch (batch 2 (pos 100000000) (seen 0 None ∷ []) 1)

-- the same with a detection 50 metres away beside it
abbrev again_with_far : Call
again_with_far = process_batch (batch 2 (pos 100000000) (seen 0 None ∷ seen 50 None ∷ []) 2)

-- nothing is seen, so long after the time 0
abbrev nothing_at : ℕ → Call
nothing_at n = process_batch (batch 3 (pos n) [] 0)

abbrev pub sequence_cases : List Case
sequence_cases =
    case (lives_after (once ∷ [])) (record { number = 1; state = Tentative; times = 1 } ∷ [])
    ∷ case (lives_after (once ∷ again ∷ [])) (record { number = 1; state = Confirmed; times = 2 } ∷ [])
    ∷ case (lives_after (once ∷ again ∷ nothing_at 600000000 ∷ [])) (record { number = 1; state = Confirmed; times = 2 } ∷ [])
    ∷ case (lives_after (once ∷ again ∷ nothing_at 600000001 ∷ [])) (record { number = 1; state = Lost; times = 2 } ∷ [])
    ∷ case (lives_after (once ∷ again ∷ nothing_at 2100000001 ∷ [])) []
    ∷ case (lives_after (once ∷ again_with_far ∷ [])) (record { number = 1; state = Confirmed; times = 2 } ∷ record { number = 2; state = Tentative; times = 1 } ∷ [])
    ∷ []
