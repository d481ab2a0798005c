-- `snapshots`: what is shown of each track, in track order. The Rust's snapshots and snapshot_of.
use Rattle.std.specs.Prelude.{List, map, length, replicate}
use Rattle.lists.specs.Lay.{lay}
use Rattle.types.specs.declared.track.Track3DSnapshot.{Track3DSnapshot}
use Rattle.types.specs.declared.track.Snapshots.{Snapshots}
use Rattle.types.specs.declared.tracker.Cartesian3DTracker.{Cartesian3DTracker}
use Rattle.types.specs.Track.{snapshot_of}
use Rattle.types.specs.States.{State, state_of}
use Rattle.types.specs.Fresh.{blank_track}

unfoldable pub snapshots : State → List Track3DSnapshot
snapshots s = map snapshot_of s.tracks

-- the whole struct: behind the snapshots stands what is shown of a blank track
unfoldable pub snapshots_of : Cartesian3DTracker → Snapshots
snapshots_of t = record { items = lay (snapshots (state_of t)) (replicate 64 (snapshot_of blank_track)); count = length (snapshots (state_of t)) }
