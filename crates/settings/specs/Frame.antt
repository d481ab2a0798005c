-- The name of a coordinate frame. 01: "frame name 32 bytes"; "`String`: bytes with a length".
use Rattle.std.specs.Prelude.{ℕ, Bool, false, cond, List, [], ◌∷◌, ◌++◌, ltb, take, replicate, None, Option, Some}
use Rattle.lists.specs.Same.{same}
use Rattle.settings.specs.declared.frame.FrameName.{FrameName}

-- "world"
abbrev pub world_frame : FrameName
world_frame = record { bytes = (119 ∷ 111 ∷ 114 ∷ 108 ∷ 100 ∷ []) ++ replicate 27 0; length = 5 }

-- 01, Settings: "16 frame name too long"
abbrev pub too_long : FrameName → Bool
too_long f = ltb 32 f.length

-- the bytes up to the length; a name that is too long has none
unfoldable pub name_of : FrameName → Option (List ℕ)
name_of f = cond (too_long f) None (Some (take f.length f.bytes))

abbrev pub same_name : Option (List ℕ) → Option (List ℕ) → Bool
same_name (Some l) (Some m) = same l m
same_name (Some l) None = false
same_name None m = false

-- 01, Batch: "2 frame differs": frames are the same when their bytes are, up to their lengths; a name that is too long equals none, itself included
unfoldable pub same_frame : FrameName → FrameName → Bool
same_frame a b = same_name (name_of a) (name_of b)
