-- The worked edges hold, by computation.
use mathlib.Core.Path.{refl}
use Rattle.recorded.specs.Edges.{FirstBirth, OnlyConfirmedSuppress, AgeAtMostTheWindow, TooManyDetections, TooManySensors, TooManyTracks, NoNumberLeft, TooManyCandidates}
use Rattle.recorded.proofs.Opened.{opened}

pub first_birth : FirstBirth
unfolding opened
first_birth = refl

pub only_confirmed_suppress : OnlyConfirmedSuppress
unfolding opened
only_confirmed_suppress = (refl, refl)

pub age_at_most_the_window : AgeAtMostTheWindow
unfolding opened
age_at_most_the_window = (refl, refl, refl, refl)

pub too_many_detections : TooManyDetections
unfolding opened
too_many_detections = refl

pub too_many_sensors : TooManySensors
unfolding opened
too_many_sensors = (refl, refl)

pub too_many_tracks : TooManyTracks
unfolding opened
too_many_tracks = (refl, refl)

pub no_number_left : NoNumberLeft
unfolding opened
no_number_left = (refl, refl)

pub too_many_candidates : TooManyCandidates
unfolding opened
too_many_candidates = (refl, refl)
