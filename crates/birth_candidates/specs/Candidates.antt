-- Candidates as lists, and what the calls on them answer.
use Rattle.std.specs.Prelude.{List, [], pos, take, None, Option, Some}
use Rattle.number.specs.Reply.{Reply, given, and_then}
use Rattle.lists.specs.Table.{Table, over_table}
use Rattle.types.specs.declared.tracker.BirthCandidate.{BirthCandidate}
use Rattle.calls.specs.Births.{Nearest, Sighting}
use Rattle.birth_candidates.specs.declared.Candidates.{Candidates}
use Rattle.birth_candidates.specs.declared.Near.{Near}
use Rattle.birth_candidates.specs.declared.Sighted.{Sighted}

-- the first places, whatever the count says
unfoldable pub list_of : Candidates → List BirthCandidate
list_of c = take c.count c.items

abbrev pub held : Table BirthCandidate → Candidates
held t = record { items = t.array; count = t.count }

-- a list in the first places; those behind it are as they were
abbrev pub over : Candidates → List BirthCandidate → Candidates
over c l = held (over_table l c.items)

-- the candidates c aged, where they are
abbrev pub after_aging : Candidates → Reply (List BirthCandidate) → Reply Candidates
after_aging c reply = and_then reply (λ l. given (over c l))

abbrev pub near_of : Option Nearest → Option Near
near_of None = None
near_of (Some n) = Some (record { at = n.place; distance = n.distance })

-- what code reads past the end of an array
abbrev pub no_candidate : BirthCandidate
no_candidate = record { position = []; last_seen = pos 0; sightings = 0 }

-- a sighting among the candidates c
abbrev pub seen_in : Candidates → Sighting → Sighted
seen_in c s = record { begins = s.enough; candidates = over c s.candidates }

abbrev pub after_sighting : Candidates → Reply Sighting → Reply Sighted
after_sighting c reply = and_then reply (λ s. given (seen_in c s))
