-- The cases of roots, filters, lifecycles and sensors hold, by computation.
use mathlib.Core.Path.{refl}
use lib.Ieee.{add, sub, mul, div, lt, le, of_bits}
use Rattle.lists.specs.First.{any}
use Rattle.number.specs.Time.{age_of, duration_reply}
use Rattle.square_root.specs.Root.{root_reply}
use Rattle.lifecycle.specs.Lifecycle.{next, settled, aged_of, advanced_of}
use Rattle.lifecycle.specs.Sensors.{recorded_of}
use Rattle.matrix.specs.Matrix.{row_times, product, times_vector, transposed, congruence, plus_vector, minus_vector, plus, minus, mean_row, symmetrized, identity}
use Rattle.matrix.specs.Flat.{row_of, rows_of, flat_of}
use Rattle.finite.specs.Finite.{finite_vector, finite_matrix}
use Rattle.symmetry.specs.Symmetry.{largest_in_row, largest, skew_row, skew, is_symmetric}
use Rattle.cholesky.specs.Cholesky.{column_by, pivot_root, columns_from, cholesky}
use Rattle.solving.specs.Solving.{forward, backward, solved, solved_columns, gain_by}
use Rattle.cholesky.specs.Definite.{factorable}
use Rattle.math.specs.Linalg.{entries_checked, validated, distance_reply, distance_by, squared_distance}
use Rattle.models.specs.Models.{transition, noise, selection}
use Rattle.filter.specs.Kalman.{finished, moved, predict_reply, innovation, spread, corrected, gained, measured_with, measured_by, measured, checked, update_reply, distance_of}
use Rattle.filter.specs.Filter.{stored, predicted, updated_by_position, squared_mahalanobis}
use Rattle.worked.specs.Case.{All}
use mathlib.Core.List.{◌++◌}
use Rattle.worked.specs.Roots.{root_cases}
use Rattle.worked.specs.Filters.{filter_cases}
use Rattle.worked.specs.Lifecycles.{lifecycle_cases}

pub parts_hold : All (root_cases ++ filter_cases ++ lifecycle_cases)
unfolding root_reply of_bits advanced_of aged_of settled next age_of duration_reply recorded_of any add sub mul div lt le row_times product times_vector transposed congruence plus_vector minus_vector plus minus mean_row symmetrized identity row_of rows_of flat_of finite_vector finite_matrix largest_in_row largest skew_row skew is_symmetric column_by pivot_root columns_from cholesky forward backward solved solved_columns gain_by factorable entries_checked validated distance_reply distance_by squared_distance transition noise selection finished moved predict_reply innovation spread corrected gained measured_with measured_by measured checked update_reply distance_of stored predicted updated_by_position squared_mahalanobis
parts_hold = (refl, (refl, (refl, (refl, (refl, (refl, (refl, (refl, (refl, (refl, (refl, tt)))))))))))
