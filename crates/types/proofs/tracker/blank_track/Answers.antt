use Rattle.types.proofs.tracker.blank_track.Goals as goal

pub returns : goal.returns
returns c = rw c.new.ensures
