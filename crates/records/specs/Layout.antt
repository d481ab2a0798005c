-- How a struct lies in memory, by the machine's own rules of size and alignment (prog.Memory): the offset of each field.
use Rattle.std.specs.Prelude.{ℕ, zero, ◌+◌, List, [], ◌∷◌}
use mir.Syntax.{Ty, ty_int, ty_bool, ty_float, ty_ptr, ty_ref, ty_array, ty_unit, ty_struct, ty_enum, ty_param, ty_const, ty_array_p, ty_named, Tys, tnil, tcons}
use prog.Memory.{size, align, up}

abbrev pub offsets_from : ℕ → Tys → List ℕ
offsets_from e tnil = []
offsets_from e (tcons τ τs) = up (align τ) e ∷ offsets_from (up (align τ) e + size τ) τs

-- where each field of a struct begins
abbrev pub offsets : Ty → List ℕ
offsets (ty_int w) = []
offsets ty_bool = []
offsets (ty_float f) = []
offsets ty_ptr = []
offsets (ty_ref κ μ τ) = []
offsets (ty_array τ n) = []
offsets ty_unit = []
offsets (ty_struct ν τs) = offsets_from zero τs
offsets (ty_enum ν τss) = []
offsets (ty_param ι) = []
offsets (ty_const ι) = []
offsets (ty_array_p τ ι) = []
offsets (ty_named ν θ) = []
