-- What a C program reads in a report is what the report told. Assumes nothing.
use Rattle.std.specs.Float.{binary64}
use Rattle.std.specs.Float.Ieee.{of_bits}
use Rattle.std.specs.Prelude.{None, Option, Some, unwrap_or}
use mathlib.Core.Path.{◌≡◌, refl, ◌∙◌}
use mathlib.Core.List.{List, [], ◌∷◌, map}
use Prim.Native.Nat.{ℕ, zero, suc}
use lib.ListN.{take}
use Rattle.types.specs.declared.batch.ObservationOutcome.{ObservationOutcome}
use Rattle.types.specs.declared.batch.ObservationOutcome.TheVariants.{Updated, Spawned, Unmatched}
use Rattle.types.specs.declared.batch.ObservationAssociation.{ObservationAssociation}
use Rattle.types.specs.declared.batch.BatchReport3D.{BatchReport3D}
use Rattle.types.specs.Batches.{Report, report_of, whole_report}
use Rattle.types.proofs.Overs.{report_back}
use Rattle.flags.specs.Flags.{flag, outcome_to}
use Rattle.flags.proofs.Back.{flag_back}
use Rattle.batch_records.specs.Batches.{association_to, report_to}
use Rattle.c_guarantee.specs.Reading.{outcome_of, associated_of, association_of, report_in}

outcome_back : (o : ObservationOutcome) → outcome_of (outcome_to o) ≡ o
outcome_back Updated = refl
outcome_back Spawned = refl
outcome_back Unmatched = refl

associated_back : (o : Option ℕ) → associated_of (flag o) (unwrap_or o 0) ≡ o
associated_back None = refl
associated_back (Some n) = refl

association_back : (a : ObservationAssociation) → association_of (association_to a) ≡ a
unfolding association_of association_to
association_back a = λ i. record {
  observation_index = a.observation_index;
  track_id = associated_back a.track_id i;
  outcome = outcome_back a.outcome i;
  cost = flag_back a.cost (of_bits binary64 0) i;
}

associations_back : (n : ℕ) (l : List ObservationAssociation) → map association_of (take n (map association_to l)) ≡ take n l
associations_back zero l = refl
associations_back (suc n) [] = refl
associations_back (suc n) (a ∷ l) = λ i. association_back a i ∷ associations_back n l i

read_back : (code : ℕ) (r : BatchReport3D) → report_in (report_to code r) ≡ report_of r
unfolding report_in report_to report_of
read_back code r = λ i. record {
  time = r.timestamp;
  sensor = r.sensor_id;
  associations = associations_back r.association_count r.associations i;
  unmatched = take r.unmatched_track_count r.unmatched_track_ids;
}

pub report_read : (code : ℕ) (r : Report) → report_in (report_to code (whole_report r)) ≡ r
report_read code r = read_back code (whole_report r) ∙ report_back r
