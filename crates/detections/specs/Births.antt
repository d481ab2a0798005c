-- What of a birth is decided by a detection alone.
use Rattle.std.specs.Prelude.{Bool, false, Float, None, Option, Some}
use Rattle.std.specs.Float.{nan}
use Rattle.std.specs.Float.Ieee.{lt}
use Rattle.number.specs.Reply.{Reply, refused, given}
use Rattle.square_root.specs.Root.{root_reply}
use Rattle.matrix.specs.Matrix.{Vector, dot, minus_vector}

-- 01, Detection: "A score NaN isn't below a threshold"; nor is one that is absent
abbrev pub score_below : Option Float → Float → Bool
score_below None threshold = false
score_below (Some x) threshold = lt x threshold

-- 01, Detection: "Distances at birth are the root of the squared offsets, summed x, y, z."
abbrev pub squared_offset : Vector → Vector → Float
squared_offset a b = dot 3 (minus_vector 3 a b) (minus_vector 3 a b)

-- a place that is a NaN or infinite may have no distance: it is a NaN then, as in the Rust
abbrev pub root_or_nan : Reply Float → Float
root_or_nan (given d) = d
root_or_nan (refused n) = nan

unfoldable pub distance_of : Vector → Vector → Float
distance_of a b = root_or_nan (root_reply (squared_offset a b))

-- 01, Detection: "strictly nearer than the radius"
abbrev pub nearer : Vector → Vector → Float → Bool
nearer a b radius = lt (distance_of a b) radius
