-- Random sequences of calls, as the Rust answered them, and its last state, every bit of it. Above each stand its seed, the settings in use, and its answers: u1s0n2 is a batch
-- with 1 detection told as an update, none that began a track and 2 that did neither, d a call that was done, r12 one refused with 12; then how many candidates stood after each call.
use Rattle.std.specs.Prelude.{List, [], ◌∷◌, true, false, pos, negsuc, None, Some}
use Rattle.std.specs.Float.{binary64}
use Rattle.std.specs.Float.Ieee.{of_bits}
use Rattle.settings.specs.declared.Cartesian3DTrackerConfig.{Cartesian3DTrackerConfig}
use Rattle.lifecycle.specs.declared.TrackLifecycleState.TheVariants.{Tentative, Confirmed}
use Rattle.types.specs.declared.batch.ObservationOutcome.TheVariants.{Updated, Spawned, Unmatched}
use Rattle.types.specs.States.{State}
use Rattle.calls.specs.Run.{Call, predict_to, process_batch, set_class_prior}
use Rattle.recorded.specs.Trace.{Answer, done, no, told}

-- seed 64 size 6 window true birth true persist false std false: u0s1n1 d r12 r12 r8 u0s0n0  c[0, 0, 0, 0, 0, 0, 0]
abbrev pub config64 : Cartesian3DTrackerConfig
config64 = record { lifecycle = record { confirm_min_observation_times = 2; tentative_timeout_ns = (pos 9223372036854775807); confirmed_to_lost_ns = (pos 1000000000); lost_to_delete_ns = (pos 2000000000) }; new_track_score_threshold = (Some (of_bits binary64 4599075939470750515)); max_contributing_sensors = 1; frame_id = (record { bytes = (119 ∷ 111 ∷ 114 ∷ 108 ∷ 100 ∷ 0 ∷ 0 ∷ 0 ∷ 0 ∷ 0 ∷ 0 ∷ 0 ∷ 0 ∷ 0 ∷ 0 ∷ 0 ∷ 0 ∷ 0 ∷ 0 ∷ 0 ∷ 0 ∷ 0 ∷ 0 ∷ 0 ∷ 0 ∷ 0 ∷ 0 ∷ 0 ∷ 0 ∷ 0 ∷ 0 ∷ 0 ∷ []); length = 5 }); accel_spectral_density = (of_bits binary64 4607182418800017408); initial_velocity_variance = (of_bits binary64 4616189618054758400); gate_squared_mahalanobis = (of_bits binary64 4625271689653304426); class_prior_penalty = (of_bits binary64 4620693217682128896); recent_track_window_ns = (Some (pos 150000000)); min_birth_distance_m = (Some (of_bits binary64 4611686018427387904)); birth_persistence = None; birth_candidate_radius_m = (of_bits binary64 4611686018427387904); birth_candidate_timeout_ns = (pos 9223372036854775807); velocity_measurement_std = None }

abbrev pub calls64 : List Call
calls64 = ((process_batch (record { sensor_id = 0; sequence = 0; timestamp = (negsuc 9223372036854775807); frame_id = (record { bytes = (119 ∷ 111 ∷ 114 ∷ 108 ∷ 100 ∷ 0 ∷ 0 ∷ 0 ∷ 0 ∷ 0 ∷ 0 ∷ 0 ∷ 0 ∷ 0 ∷ 0 ∷ 0 ∷ 0 ∷ 0 ∷ 0 ∷ 0 ∷ 0 ∷ 0 ∷ 0 ∷ 0 ∷ 0 ∷ 0 ∷ 0 ∷ 0 ∷ 0 ∷ 0 ∷ 0 ∷ 0 ∷ []); length = 5 }); observations = ((record { position = ((of_bits binary64 13825913454330088697) ∷ (of_bits binary64 4617042015629938723) ∷ (of_bits binary64 4608697150270830955) ∷ []); covariance = ((of_bits binary64 4585925428558828667) ∷ (of_bits binary64 0) ∷ (of_bits binary64 0) ∷ (of_bits binary64 0) ∷ (of_bits binary64 4585925428558828667) ∷ (of_bits binary64 0) ∷ (of_bits binary64 0) ∷ (of_bits binary64 0) ∷ (of_bits binary64 4585925428558828667) ∷ []); velocity = (Some (record { x = of_bits binary64 13829672153095176668; y = of_bits binary64 4607182418800017408 })); class_label = (Some 2); score = None }) ∷ (record { position = ((of_bits binary64 13827465398278666019) ∷ (of_bits binary64 4617427408883622290) ∷ (of_bits binary64 4610661576929698161) ∷ []); covariance = ((of_bits binary64 4585925428558828667) ∷ (of_bits binary64 0) ∷ (of_bits binary64 0) ∷ (of_bits binary64 0) ∷ (of_bits binary64 4585925428558828667) ∷ (of_bits binary64 0) ∷ (of_bits binary64 0) ∷ (of_bits binary64 0) ∷ (of_bits binary64 4585925428558828667) ∷ []); velocity = None; class_label = (Some 1); score = (Some (of_bits binary64 4595295985890837460)) }) ∷ []); count = 2 })) ∷ (predict_to (negsuc 9223372036754775807)) ∷ (set_class_prior 4 2 (of_bits binary64 4597172379785429472)) ∷ (set_class_prior 2 2 (of_bits binary64 4598860817634340192)) ∷ (process_batch (record { sensor_id = 0; sequence = 2; timestamp = (pos 9223372036854775807); frame_id = (record { bytes = (119 ∷ 111 ∷ 114 ∷ 108 ∷ 100 ∷ 0 ∷ 0 ∷ 0 ∷ 0 ∷ 0 ∷ 0 ∷ 0 ∷ 0 ∷ 0 ∷ 0 ∷ 0 ∷ 0 ∷ 0 ∷ 0 ∷ 0 ∷ 0 ∷ 0 ∷ 0 ∷ 0 ∷ 0 ∷ 0 ∷ 0 ∷ 0 ∷ 0 ∷ 0 ∷ 0 ∷ 0 ∷ []); length = 5 }); observations = ((record { position = ((of_bits binary64 13823282545653210880) ∷ (of_bits binary64 4616697726773810858) ∷ (of_bits binary64 4609237320206671785) ∷ []); covariance = ((of_bits binary64 4585925428558828667) ∷ (of_bits binary64 0) ∷ (of_bits binary64 0) ∷ (of_bits binary64 0) ∷ (of_bits binary64 4585925428558828667) ∷ (of_bits binary64 0) ∷ (of_bits binary64 0) ∷ (of_bits binary64 0) ∷ (of_bits binary64 4585925428558828667) ∷ []); velocity = (Some (record { x = of_bits binary64 4604128543275287600; y = of_bits binary64 4603804719079489536 })); class_label = None; score = (Some (of_bits binary64 4605752625443625504)) }) ∷ (record { position = ((of_bits binary64 9223372036854775808) ∷ (of_bits binary64 9223372036854775808) ∷ (of_bits binary64 4611686018427387904) ∷ []); covariance = ((of_bits binary64 4585925428558828667) ∷ (of_bits binary64 0) ∷ (of_bits binary64 0) ∷ (of_bits binary64 0) ∷ (of_bits binary64 4585925428558828667) ∷ (of_bits binary64 0) ∷ (of_bits binary64 0) ∷ (of_bits binary64 0) ∷ (of_bits binary64 4585925428558828667) ∷ []); velocity = (Some (record { x = of_bits binary64 4608449690819143276; y = of_bits binary64 13833193488800160950 })); class_label = None; score = None }) ∷ []); count = 2 })) ∷ (process_batch (record { sensor_id = 10; sequence = 1; timestamp = (negsuc 9223372036654775807); frame_id = (record { bytes = (119 ∷ 111 ∷ 114 ∷ 108 ∷ 100 ∷ 0 ∷ 0 ∷ 0 ∷ 0 ∷ 0 ∷ 0 ∷ 0 ∷ 0 ∷ 0 ∷ 0 ∷ 0 ∷ 0 ∷ 0 ∷ 0 ∷ 0 ∷ 0 ∷ 0 ∷ 0 ∷ 0 ∷ 0 ∷ 0 ∷ 0 ∷ 0 ∷ 0 ∷ 0 ∷ 0 ∷ 0 ∷ []); length = 5 }); observations = ([]); count = 0 })) ∷ [])

abbrev pub answers64 : List Answer
answers64 = ((told (record { time = (negsuc 9223372036854775807); sensor = 0; associations = ((record { observation_index = 0; track_id = Some 1; outcome = Spawned; cost = None }) ∷ (record { observation_index = 1; track_id = None; outcome = Unmatched; cost = None }) ∷ []); unmatched = ([]) })) ∷ done ∷ (no 12) ∷ (no 12) ∷ (no 8) ∷ (told (record { time = (negsuc 9223372036654775807); sensor = 10; associations = ([]); unmatched = (1 ∷ []) })) ∷ [])

abbrev pub state64 : State
state64 = record { tracks = ((record { id = 1; filter = record { state = ((of_bits binary64 13825913454330088697) ∷ (of_bits binary64 4617042015629938723) ∷ (of_bits binary64 4608697150270830955) ∷ (of_bits binary64 0) ∷ (of_bits binary64 0) ∷ (of_bits binary64 0) ∷ []); covariance = ((of_bits binary64 4596469856486378789) ∷ (of_bits binary64 0) ∷ (of_bits binary64 0) ∷ (of_bits binary64 4605561122934164029) ∷ (of_bits binary64 0) ∷ (of_bits binary64 0) ∷ (of_bits binary64 0) ∷ (of_bits binary64 4596469856486378789) ∷ (of_bits binary64 0) ∷ (of_bits binary64 0) ∷ (of_bits binary64 4605561122934164029) ∷ (of_bits binary64 0) ∷ (of_bits binary64 0) ∷ (of_bits binary64 0) ∷ (of_bits binary64 4596469856486378789) ∷ (of_bits binary64 0) ∷ (of_bits binary64 0) ∷ (of_bits binary64 4605561122934164029) ∷ (of_bits binary64 4605561122934164029) ∷ (of_bits binary64 0) ∷ (of_bits binary64 0) ∷ (of_bits binary64 4616414798036126924) ∷ (of_bits binary64 0) ∷ (of_bits binary64 0) ∷ (of_bits binary64 0) ∷ (of_bits binary64 4605561122934164029) ∷ (of_bits binary64 0) ∷ (of_bits binary64 0) ∷ (of_bits binary64 4616414798036126924) ∷ (of_bits binary64 0) ∷ (of_bits binary64 0) ∷ (of_bits binary64 0) ∷ (of_bits binary64 4605561122934164029) ∷ (of_bits binary64 0) ∷ (of_bits binary64 0) ∷ (of_bits binary64 4616414798036126924) ∷ []) }; lifecycle = record { state = Tentative; created_at = (negsuc 9223372036854775807); last_observation = (Some (negsuc 9223372036854775807)); last_counted = (Some (negsuc 9223372036854775807)); observation_times = 1 }; class_label = (Some 2); class_prior = None; state_timestamp = (negsuc 9223372036654775807); last_update_sensor = (Some 0); contributing_sensors = record { ids = (0 ∷ 0 ∷ 0 ∷ 0 ∷ 0 ∷ 0 ∷ 0 ∷ 0 ∷ 0 ∷ 0 ∷ 0 ∷ 0 ∷ 0 ∷ 0 ∷ 0 ∷ 0 ∷ []); count = 1 }; updated_this_batch = false }) ∷ []); next = 2; last = (Some (negsuc 9223372036654775807)); sequences = ((record { sensor = 0; sequence = 0 }) ∷ (record { sensor = 10; sequence = 1 }) ∷ []); candidates = ([]) }

-- seed 2003 size 15 window true birth true persist true std true: u0s3n0 u1s0n1 u1s1n0  c[0, 0, 1, 0] credited
abbrev pub config2003 : Cartesian3DTrackerConfig
config2003 = record { lifecycle = record { confirm_min_observation_times = 0; tentative_timeout_ns = (pos 200000000); confirmed_to_lost_ns = (pos 200000000); lost_to_delete_ns = (pos 800000000) }; new_track_score_threshold = None; max_contributing_sensors = 16; frame_id = (record { bytes = (119 ∷ 111 ∷ 114 ∷ 108 ∷ 100 ∷ 0 ∷ 0 ∷ 0 ∷ 0 ∷ 0 ∷ 0 ∷ 0 ∷ 0 ∷ 0 ∷ 0 ∷ 0 ∷ 0 ∷ 0 ∷ 0 ∷ 0 ∷ 0 ∷ 0 ∷ 0 ∷ 0 ∷ 0 ∷ 0 ∷ 0 ∷ 0 ∷ 0 ∷ 0 ∷ 0 ∷ 0 ∷ []); length = 5 }); accel_spectral_density = (of_bits binary64 4620693217682128896); initial_velocity_variance = (of_bits binary64 118622047889322841); gate_squared_mahalanobis = (of_bits binary64 4625271689653304426); class_prior_penalty = (of_bits binary64 9214871658872686752); recent_track_window_ns = (Some (pos 9223372036854775807)); min_birth_distance_m = (Some (of_bits binary64 4741671816366391296)); birth_persistence = (Some 2); birth_candidate_radius_m = (of_bits binary64 4602678819172646912); birth_candidate_timeout_ns = (pos 9223372036854775807); velocity_measurement_std = (Some (of_bits binary64 4607182418800017408)) }

abbrev pub calls2003 : List Call
calls2003 = ((process_batch (record { sensor_id = 0; sequence = 2; timestamp = (pos 0); frame_id = (record { bytes = (119 ∷ 111 ∷ 114 ∷ 108 ∷ 100 ∷ 0 ∷ 0 ∷ 0 ∷ 0 ∷ 0 ∷ 0 ∷ 0 ∷ 0 ∷ 0 ∷ 0 ∷ 0 ∷ 0 ∷ 0 ∷ 0 ∷ 0 ∷ 0 ∷ 0 ∷ 0 ∷ 0 ∷ 0 ∷ 0 ∷ 0 ∷ 0 ∷ 0 ∷ 0 ∷ 0 ∷ 0 ∷ []); length = 5 }); observations = ((record { position = ((of_bits binary64 13841109767281442816) ∷ (of_bits binary64 13836887680934189133) ∷ (of_bits binary64 13837426647919043535) ∷ []); covariance = ((of_bits binary64 4585925428558828667) ∷ (of_bits binary64 0) ∷ (of_bits binary64 0) ∷ (of_bits binary64 0) ∷ (of_bits binary64 4585925428558828667) ∷ (of_bits binary64 0) ∷ (of_bits binary64 0) ∷ (of_bits binary64 0) ∷ (of_bits binary64 4585925428558828667) ∷ []); velocity = None; class_label = None; score = (Some (of_bits binary64 4605087099552813917)) }) ∷ (record { position = ((of_bits binary64 13842517142164996096) ∷ (of_bits binary64 13836887680934189133) ∷ (of_bits binary64 13837103523689417060) ∷ []); covariance = ((of_bits binary64 4606412122131670723) ∷ (of_bits binary64 13826388593105147203) ∷ (of_bits binary64 13831301680399185954) ∷ (of_bits binary64 13826388593105147203) ∷ (of_bits binary64 4608862580759440629) ∷ (of_bits binary64 4605113292061952099) ∷ (of_bits binary64 13831301680399185954) ∷ (of_bits binary64 4605113292061952099) ∷ (of_bits binary64 4609537666305279574) ∷ []); velocity = (Some (record { x = of_bits binary64 4610560118520545280; y = of_bits binary64 13831680355561635840 })); class_label = None; score = (Some (of_bits binary64 4599366501808352330)) }) ∷ (record { position = ((of_bits binary64 13841391242258153472) ∷ (of_bits binary64 13838576530794453069) ∷ (of_bits binary64 13839355323503102308) ∷ []); covariance = ((of_bits binary64 4585925428558828667) ∷ (of_bits binary64 0) ∷ (of_bits binary64 0) ∷ (of_bits binary64 0) ∷ (of_bits binary64 4585925428558828667) ∷ (of_bits binary64 0) ∷ (of_bits binary64 0) ∷ (of_bits binary64 0) ∷ (of_bits binary64 4585925428558828667) ∷ []); velocity = None; class_label = None; score = (Some (of_bits binary64 4581903643643576960)) }) ∷ []); count = 3 })) ∷ (process_batch (record { sensor_id = 0; sequence = 4; timestamp = (pos 0); frame_id = (record { bytes = (119 ∷ 111 ∷ 114 ∷ 108 ∷ 100 ∷ 0 ∷ 0 ∷ 0 ∷ 0 ∷ 0 ∷ 0 ∷ 0 ∷ 0 ∷ 0 ∷ 0 ∷ 0 ∷ 0 ∷ 0 ∷ 0 ∷ 0 ∷ 0 ∷ 0 ∷ 0 ∷ 0 ∷ 0 ∷ 0 ∷ 0 ∷ 0 ∷ 0 ∷ 0 ∷ 0 ∷ 0 ∷ []); length = 5 }); observations = ((record { position = ((of_bits binary64 13837833278969628146) ∷ (of_bits binary64 4607475509866654026) ∷ (of_bits binary64 4614500768194494464) ∷ []); covariance = ((of_bits binary64 4585925428558828667) ∷ (of_bits binary64 0) ∷ (of_bits binary64 0) ∷ (of_bits binary64 0) ∷ (of_bits binary64 4585925428558828667) ∷ (of_bits binary64 0) ∷ (of_bits binary64 0) ∷ (of_bits binary64 0) ∷ (of_bits binary64 4585925428558828667) ∷ []); velocity = None; class_label = (Some 0); score = (Some (of_bits binary64 4602532604043591278)) }) ∷ (record { position = ((of_bits binary64 13841964798997035113) ∷ (of_bits binary64 13836887680934189133) ∷ (of_bits binary64 13835223332103890757) ∷ []); covariance = ((of_bits binary64 4585925428558828667) ∷ (of_bits binary64 0) ∷ (of_bits binary64 0) ∷ (of_bits binary64 0) ∷ (of_bits binary64 4585925428558828667) ∷ (of_bits binary64 0) ∷ (of_bits binary64 0) ∷ (of_bits binary64 0) ∷ (of_bits binary64 4585925428558828667) ∷ []); velocity = None; class_label = (Some 1); score = (Some (of_bits binary64 4596990159234502856)) }) ∷ []); count = 2 })) ∷ (process_batch (record { sensor_id = 0; sequence = 6; timestamp = (pos 100000000); frame_id = (record { bytes = (119 ∷ 111 ∷ 114 ∷ 108 ∷ 100 ∷ 0 ∷ 0 ∷ 0 ∷ 0 ∷ 0 ∷ 0 ∷ 0 ∷ 0 ∷ 0 ∷ 0 ∷ 0 ∷ 0 ∷ 0 ∷ 0 ∷ 0 ∷ 0 ∷ 0 ∷ 0 ∷ 0 ∷ 0 ∷ 0 ∷ 0 ∷ 0 ∷ 0 ∷ 0 ∷ 0 ∷ 0 ∷ []); length = 5 }); observations = ((record { position = ((of_bits binary64 13841378903204143790) ∷ (of_bits binary64 13836874263133375424) ∷ (of_bits binary64 13837683339348202806) ∷ []); covariance = ((of_bits binary64 4585925428558828667) ∷ (of_bits binary64 0) ∷ (of_bits binary64 0) ∷ (of_bits binary64 0) ∷ (of_bits binary64 4585925428558828667) ∷ (of_bits binary64 0) ∷ (of_bits binary64 0) ∷ (of_bits binary64 0) ∷ (of_bits binary64 4585925428558828667) ∷ []); velocity = None; class_label = (Some 0); score = None }) ∷ (record { position = ((of_bits binary64 13838114753946338802) ∷ (of_bits binary64 4605709418568292862) ∷ (of_bits binary64 4614447904406125960) ∷ []); covariance = ((of_bits binary64 4585925428558828667) ∷ (of_bits binary64 0) ∷ (of_bits binary64 0) ∷ (of_bits binary64 0) ∷ (of_bits binary64 4585925428558828667) ∷ (of_bits binary64 0) ∷ (of_bits binary64 0) ∷ (of_bits binary64 0) ∷ (of_bits binary64 4585925428558828667) ∷ []); velocity = (Some (record { x = of_bits binary64 4597469406869705136; y = of_bits binary64 4607976862650763412 })); class_label = (Some 1); score = None }) ∷ []); count = 2 })) ∷ [])

abbrev pub answers2003 : List Answer
answers2003 = ((told (record { time = (pos 0); sensor = 0; associations = ((record { observation_index = 0; track_id = Some 1; outcome = Spawned; cost = None }) ∷ (record { observation_index = 1; track_id = Some 2; outcome = Spawned; cost = None }) ∷ (record { observation_index = 2; track_id = Some 3; outcome = Spawned; cost = None }) ∷ []); unmatched = ([]) })) ∷ (told (record { time = (pos 0); sensor = 0; associations = ((record { observation_index = 0; track_id = None; outcome = Unmatched; cost = None }) ∷ (record { observation_index = 1; track_id = Some 2; outcome = Updated; cost = (Some (of_bits binary64 4625123033794065670)) }) ∷ []); unmatched = (1 ∷ 3 ∷ []) })) ∷ (told (record { time = (pos 100000000); sensor = 0; associations = ((record { observation_index = 0; track_id = Some 1; outcome = Updated; cost = (Some (of_bits binary64 4605820869394741704)) }) ∷ (record { observation_index = 1; track_id = Some 4; outcome = Spawned; cost = None }) ∷ []); unmatched = (2 ∷ 3 ∷ []) })) ∷ [])

abbrev pub state2003 : State
state2003 = record { tracks = ((record { id = 1; filter = record { state = ((of_bits binary64 13841248676144772351) ∷ (of_bits binary64 13836880755617640122) ∷ (of_bits binary64 13837559133817964449) ∷ (of_bits binary64 13816370989317712835) ∷ (of_bits binary64 4568794726413363102) ∷ (of_bits binary64 13811482011825825085) ∷ []); covariance = ((of_bits binary64 4581607784012846372) ∷ (of_bits binary64 0) ∷ (of_bits binary64 0) ∷ (of_bits binary64 4581235873850069971) ∷ (of_bits binary64 0) ∷ (of_bits binary64 0) ∷ (of_bits binary64 0) ∷ (of_bits binary64 4581607784012846372) ∷ (of_bits binary64 0) ∷ (of_bits binary64 0) ∷ (of_bits binary64 4581235873850069971) ∷ (of_bits binary64 0) ∷ (of_bits binary64 0) ∷ (of_bits binary64 0) ∷ (of_bits binary64 4581607784012846372) ∷ (of_bits binary64 0) ∷ (of_bits binary64 0) ∷ (of_bits binary64 4581235873850069971) ∷ (of_bits binary64 4581235873850069971) ∷ (of_bits binary64 0) ∷ (of_bits binary64 0) ∷ (of_bits binary64 4605206646060267771) ∷ (of_bits binary64 0) ∷ (of_bits binary64 0) ∷ (of_bits binary64 0) ∷ (of_bits binary64 4581235873850069971) ∷ (of_bits binary64 0) ∷ (of_bits binary64 0) ∷ (of_bits binary64 4605206646060267771) ∷ (of_bits binary64 0) ∷ (of_bits binary64 0) ∷ (of_bits binary64 0) ∷ (of_bits binary64 4581235873850069971) ∷ (of_bits binary64 0) ∷ (of_bits binary64 0) ∷ (of_bits binary64 4605206646060267771) ∷ []) }; lifecycle = record { state = Confirmed; created_at = (pos 0); last_observation = (Some (pos 100000000)); last_counted = (Some (pos 100000000)); observation_times = 2 }; class_label = (Some 0); class_prior = None; state_timestamp = (pos 100000000); last_update_sensor = (Some 0); contributing_sensors = record { ids = (0 ∷ 0 ∷ 0 ∷ 0 ∷ 0 ∷ 0 ∷ 0 ∷ 0 ∷ 0 ∷ 0 ∷ 0 ∷ 0 ∷ 0 ∷ 0 ∷ 0 ∷ 0 ∷ []); count = 1 }; updated_this_batch = true }) ∷ (record { id = 2; filter = record { state = ((of_bits binary64 13842376876527644574) ∷ (of_bits binary64 13837089552865966086) ∷ (of_bits binary64 13836219428043387676) ∷ (of_bits binary64 4610560118520545280) ∷ (of_bits binary64 13831680355561635840) ∷ (of_bits binary64 0) ∷ []); covariance = ((of_bits binary64 4584986652512825324) ∷ (of_bits binary64 4559490911866074944) ∷ (of_bits binary64 13802969367529174683) ∷ (of_bits binary64 4594212051873190380) ∷ (of_bits binary64 0) ∷ (of_bits binary64 0) ∷ (of_bits binary64 4559490911866074944) ∷ (of_bits binary64 4587524203969972379) ∷ (of_bits binary64 4563586822574103914) ∷ (of_bits binary64 0) ∷ (of_bits binary64 4594212051873190380) ∷ (of_bits binary64 0) ∷ (of_bits binary64 13802969367529174683) ∷ (of_bits binary64 4563586822574103914) ∷ (of_bits binary64 4584327559089525652) ∷ (of_bits binary64 0) ∷ (of_bits binary64 0) ∷ (of_bits binary64 4585925428558828668) ∷ (of_bits binary64 4594212051873190380) ∷ (of_bits binary64 0) ∷ (of_bits binary64 0) ∷ (of_bits binary64 4610785298501913805) ∷ (of_bits binary64 0) ∷ (of_bits binary64 0) ∷ (of_bits binary64 0) ∷ (of_bits binary64 4594212051873190380) ∷ (of_bits binary64 0) ∷ (of_bits binary64 0) ∷ (of_bits binary64 4610785298501913805) ∷ (of_bits binary64 0) ∷ (of_bits binary64 0) ∷ (of_bits binary64 0) ∷ (of_bits binary64 4585925428558828668) ∷ (of_bits binary64 0) ∷ (of_bits binary64 0) ∷ (of_bits binary64 4605380978949069210) ∷ []) }; lifecycle = record { state = Confirmed; created_at = (pos 0); last_observation = (Some (pos 0)); last_counted = (Some (pos 0)); observation_times = 1 }; class_label = (Some 1); class_prior = None; state_timestamp = (pos 100000000); last_update_sensor = (Some 0); contributing_sensors = record { ids = (0 ∷ 0 ∷ 0 ∷ 0 ∷ 0 ∷ 0 ∷ 0 ∷ 0 ∷ 0 ∷ 0 ∷ 0 ∷ 0 ∷ 0 ∷ 0 ∷ 0 ∷ 0 ∷ []); count = 1 }; updated_this_batch = false }) ∷ (record { id = 3; filter = record { state = ((of_bits binary64 13841391242258153472) ∷ (of_bits binary64 13838576530794453069) ∷ (of_bits binary64 13839355323503102308) ∷ (of_bits binary64 0) ∷ (of_bits binary64 0) ∷ (of_bits binary64 0) ∷ []); covariance = ((of_bits binary64 4586309735727030949) ∷ (of_bits binary64 0) ∷ (of_bits binary64 0) ∷ (of_bits binary64 4585925428558828668) ∷ (of_bits binary64 0) ∷ (of_bits binary64 0) ∷ (of_bits binary64 0) ∷ (of_bits binary64 4586309735727030949) ∷ (of_bits binary64 0) ∷ (of_bits binary64 0) ∷ (of_bits binary64 4585925428558828668) ∷ (of_bits binary64 0) ∷ (of_bits binary64 0) ∷ (of_bits binary64 0) ∷ (of_bits binary64 4586309735727030949) ∷ (of_bits binary64 0) ∷ (of_bits binary64 0) ∷ (of_bits binary64 4585925428558828668) ∷ (of_bits binary64 4585925428558828668) ∷ (of_bits binary64 0) ∷ (of_bits binary64 0) ∷ (of_bits binary64 4605380978949069210) ∷ (of_bits binary64 0) ∷ (of_bits binary64 0) ∷ (of_bits binary64 0) ∷ (of_bits binary64 4585925428558828668) ∷ (of_bits binary64 0) ∷ (of_bits binary64 0) ∷ (of_bits binary64 4605380978949069210) ∷ (of_bits binary64 0) ∷ (of_bits binary64 0) ∷ (of_bits binary64 0) ∷ (of_bits binary64 4585925428558828668) ∷ (of_bits binary64 0) ∷ (of_bits binary64 0) ∷ (of_bits binary64 4605380978949069210) ∷ []) }; lifecycle = record { state = Confirmed; created_at = (pos 0); last_observation = (Some (pos 0)); last_counted = (Some (pos 0)); observation_times = 1 }; class_label = None; class_prior = None; state_timestamp = (pos 100000000); last_update_sensor = (Some 0); contributing_sensors = record { ids = (0 ∷ 0 ∷ 0 ∷ 0 ∷ 0 ∷ 0 ∷ 0 ∷ 0 ∷ 0 ∷ 0 ∷ 0 ∷ 0 ∷ 0 ∷ 0 ∷ 0 ∷ 0 ∷ []); count = 1 }; updated_this_batch = false }) ∷ (record { id = 4; filter = record { state = ((of_bits binary64 13838114753946338802) ∷ (of_bits binary64 4605709418568292862) ∷ (of_bits binary64 4614447904406125960) ∷ (of_bits binary64 4597469406869705136) ∷ (of_bits binary64 4607976862650763412) ∷ (of_bits binary64 0) ∷ []); covariance = ((of_bits binary64 4585925428558828667) ∷ (of_bits binary64 0) ∷ (of_bits binary64 0) ∷ (of_bits binary64 0) ∷ (of_bits binary64 0) ∷ (of_bits binary64 0) ∷ (of_bits binary64 0) ∷ (of_bits binary64 4585925428558828667) ∷ (of_bits binary64 0) ∷ (of_bits binary64 0) ∷ (of_bits binary64 0) ∷ (of_bits binary64 0) ∷ (of_bits binary64 0) ∷ (of_bits binary64 0) ∷ (of_bits binary64 4585925428558828667) ∷ (of_bits binary64 0) ∷ (of_bits binary64 0) ∷ (of_bits binary64 0) ∷ (of_bits binary64 0) ∷ (of_bits binary64 0) ∷ (of_bits binary64 0) ∷ (of_bits binary64 4607182418800017408) ∷ (of_bits binary64 0) ∷ (of_bits binary64 0) ∷ (of_bits binary64 0) ∷ (of_bits binary64 0) ∷ (of_bits binary64 0) ∷ (of_bits binary64 0) ∷ (of_bits binary64 4607182418800017408) ∷ (of_bits binary64 0) ∷ (of_bits binary64 0) ∷ (of_bits binary64 0) ∷ (of_bits binary64 0) ∷ (of_bits binary64 0) ∷ (of_bits binary64 0) ∷ (of_bits binary64 118622047889322841) ∷ []) }; lifecycle = record { state = Confirmed; created_at = (pos 100000000); last_observation = (Some (pos 100000000)); last_counted = (Some (pos 100000000)); observation_times = 2 }; class_label = (Some 1); class_prior = None; state_timestamp = (pos 100000000); last_update_sensor = (Some 0); contributing_sensors = record { ids = (0 ∷ 0 ∷ 0 ∷ 0 ∷ 0 ∷ 0 ∷ 0 ∷ 0 ∷ 0 ∷ 0 ∷ 0 ∷ 0 ∷ 0 ∷ 0 ∷ 0 ∷ 0 ∷ []); count = 1 }; updated_this_batch = true }) ∷ []); next = 5; last = (Some (pos 100000000)); sequences = ((record { sensor = 0; sequence = 6 }) ∷ []); candidates = ([]) }

-- seed 5597 size 12 window true birth true persist true std false: u0s1n0 u0s1n1 r8 r8  c[0, 0, 1, 1, 1]
abbrev pub config5597 : Cartesian3DTrackerConfig
config5597 = record { lifecycle = record { confirm_min_observation_times = 0; tentative_timeout_ns = (pos 9223372036854775807); confirmed_to_lost_ns = (pos 9223372036854775807); lost_to_delete_ns = (pos 9223372036854775807) }; new_track_score_threshold = (Some (of_bits binary64 4599075939470750515)); max_contributing_sensors = 16; frame_id = (record { bytes = (119 ∷ 111 ∷ 114 ∷ 108 ∷ 100 ∷ 0 ∷ 0 ∷ 0 ∷ 0 ∷ 0 ∷ 0 ∷ 0 ∷ 0 ∷ 0 ∷ 0 ∷ 0 ∷ 0 ∷ 0 ∷ 0 ∷ 0 ∷ 0 ∷ 0 ∷ 0 ∷ 0 ∷ 0 ∷ 0 ∷ 0 ∷ 0 ∷ 0 ∷ 0 ∷ 0 ∷ 0 ∷ []); length = 5 }); accel_spectral_density = (of_bits binary64 4620693217682128896); initial_velocity_variance = (of_bits binary64 118622047889322841); gate_squared_mahalanobis = (of_bits binary64 4625271689653304426); class_prior_penalty = (of_bits binary64 0); recent_track_window_ns = (Some (pos 150000000)); min_birth_distance_m = (Some (of_bits binary64 4611686018427387904)); birth_persistence = (Some 2); birth_candidate_radius_m = (of_bits binary64 4602678819172646912); birth_candidate_timeout_ns = (pos 300000000); velocity_measurement_std = None }

abbrev pub calls5597 : List Call
calls5597 = ((process_batch (record { sensor_id = 10; sequence = 2; timestamp = (negsuc 9223372036754775807); frame_id = (record { bytes = (119 ∷ 111 ∷ 114 ∷ 108 ∷ 100 ∷ 0 ∷ 0 ∷ 0 ∷ 0 ∷ 0 ∷ 0 ∷ 0 ∷ 0 ∷ 0 ∷ 0 ∷ 0 ∷ 0 ∷ 0 ∷ 0 ∷ 0 ∷ 0 ∷ 0 ∷ 0 ∷ 0 ∷ 0 ∷ 0 ∷ 0 ∷ 0 ∷ 0 ∷ 0 ∷ 0 ∷ 0 ∷ []); length = 5 }); observations = ((record { position = ((of_bits binary64 4618605453305267042) ∷ (of_bits binary64 13840910128015185225) ∷ (of_bits binary64 13841322532946964584) ∷ []); covariance = ((of_bits binary64 4610773002336887371) ∷ (of_bits binary64 4610252405393156570) ∷ (of_bits binary64 13820576286524041416) ∷ (of_bits binary64 4610252405393156570) ∷ (of_bits binary64 4610132606255216586) ∷ (of_bits binary64 13819016616381881152) ∷ (of_bits binary64 13820576286524041416) ∷ (of_bits binary64 13819016616381881152) ∷ (of_bits binary64 4607227454796291113) ∷ []); velocity = (Some (record { x = of_bits binary64 13832259459916192430; y = of_bits binary64 4607182418800017408 })); class_label = (Some 2); score = None }) ∷ []); count = 1 })) ∷ (process_batch (record { sensor_id = 0; sequence = 2; timestamp = (negsuc 9223372036654775807); frame_id = (record { bytes = (119 ∷ 111 ∷ 114 ∷ 108 ∷ 100 ∷ 0 ∷ 0 ∷ 0 ∷ 0 ∷ 0 ∷ 0 ∷ 0 ∷ 0 ∷ 0 ∷ 0 ∷ 0 ∷ 0 ∷ 0 ∷ 0 ∷ 0 ∷ 0 ∷ 0 ∷ 0 ∷ 0 ∷ 0 ∷ 0 ∷ 0 ∷ 0 ∷ 0 ∷ 0 ∷ 0 ∷ 0 ∷ []); length = 5 }); observations = ((record { position = ((of_bits binary64 13833405264699541861) ∷ (of_bits binary64 13839802510310001850) ∷ (of_bits binary64 4595472326103190490) ∷ []); covariance = ((of_bits binary64 4585925428558828667) ∷ (of_bits binary64 0) ∷ (of_bits binary64 0) ∷ (of_bits binary64 0) ∷ (of_bits binary64 4585925428558828667) ∷ (of_bits binary64 0) ∷ (of_bits binary64 0) ∷ (of_bits binary64 0) ∷ (of_bits binary64 4585925428558828667) ∷ []); velocity = (Some (record { x = of_bits binary64 13829428555747950592; y = of_bits binary64 13823799056213737472 })); class_label = None; score = None }) ∷ (record { position = ((of_bits binary64 4618464715816911714) ∷ (of_bits binary64 13840950458797753800) ∷ (of_bits binary64 13841482154561836156) ∷ []); covariance = ((of_bits binary64 4585925428558828667) ∷ (of_bits binary64 0) ∷ (of_bits binary64 0) ∷ (of_bits binary64 0) ∷ (of_bits binary64 4585925428558828667) ∷ (of_bits binary64 0) ∷ (of_bits binary64 0) ∷ (of_bits binary64 0) ∷ (of_bits binary64 4585925428558828667) ∷ []); velocity = (Some (record { x = of_bits binary64 4609434218613702656; y = of_bits binary64 4611445927264307448 })); class_label = (Some 1); score = None }) ∷ []); count = 2 })) ∷ (process_batch (record { sensor_id = 0; sequence = 4; timestamp = (pos 199999999); frame_id = (record { bytes = (119 ∷ 111 ∷ 114 ∷ 108 ∷ 100 ∷ 0 ∷ 0 ∷ 0 ∷ 0 ∷ 0 ∷ 0 ∷ 0 ∷ 0 ∷ 0 ∷ 0 ∷ 0 ∷ 0 ∷ 0 ∷ 0 ∷ 0 ∷ 0 ∷ 0 ∷ 0 ∷ 0 ∷ 0 ∷ 0 ∷ 0 ∷ 0 ∷ 0 ∷ 0 ∷ 0 ∷ 0 ∷ []); length = 5 }); observations = ((record { position = ((of_bits binary64 13833578476245702396) ∷ (of_bits binary64 13839759658408515892) ∷ (of_bits binary64 4593817796274359247) ∷ []); covariance = ((of_bits binary64 4630624806989832918) ∷ (of_bits binary64 0) ∷ (of_bits binary64 0) ∷ (of_bits binary64 0) ∷ (of_bits binary64 4638452575847920448) ∷ (of_bits binary64 0) ∷ (of_bits binary64 0) ∷ (of_bits binary64 0) ∷ (of_bits binary64 4588452219140367424) ∷ []); velocity = None; class_label = None; score = (Some (of_bits binary64 4601813549014896104)) }) ∷ (record { position = ((of_bits binary64 4618410074897775226) ∷ (of_bits binary64 13840793199351176219) ∷ (of_bits binary64 13841341417073480828) ∷ []); covariance = ((of_bits binary64 4585925428558828667) ∷ (of_bits binary64 0) ∷ (of_bits binary64 0) ∷ (of_bits binary64 0) ∷ (of_bits binary64 4585925428558828667) ∷ (of_bits binary64 0) ∷ (of_bits binary64 0) ∷ (of_bits binary64 0) ∷ (of_bits binary64 4585925428558828667) ∷ []); velocity = (Some (record { x = of_bits binary64 13830554455654793216; y = of_bits binary64 4609678792938957700 })); class_label = None; score = (Some (of_bits binary64 9223372036854775809)) }) ∷ []); count = 2 })) ∷ (predict_to (pos 299999999)) ∷ [])

abbrev pub answers5597 : List Answer
answers5597 = ((told (record { time = (negsuc 9223372036754775807); sensor = 10; associations = ((record { observation_index = 0; track_id = Some 1; outcome = Spawned; cost = None }) ∷ []); unmatched = ([]) })) ∷ (told (record { time = (negsuc 9223372036654775807); sensor = 0; associations = ((record { observation_index = 0; track_id = Some 2; outcome = Spawned; cost = None }) ∷ (record { observation_index = 1; track_id = None; outcome = Unmatched; cost = None }) ∷ []); unmatched = (1 ∷ []) })) ∷ (no 8) ∷ (no 8) ∷ [])

abbrev pub state5597 : State
state5597 = record { tracks = ((record { id = 1; filter = record { state = ((of_bits binary64 4618605453305267042) ∷ (of_bits binary64 13840910128015185225) ∷ (of_bits binary64 13841322532946964584) ∷ (of_bits binary64 0) ∷ (of_bits binary64 0) ∷ (of_bits binary64 0) ∷ []); covariance = ((of_bits binary64 4610785011935893692) ∷ (of_bits binary64 4610252405393156570) ∷ (of_bits binary64 13820576286524041416) ∷ (of_bits binary64 4585925428558828668) ∷ (of_bits binary64 0) ∷ (of_bits binary64 0) ∷ (of_bits binary64 4610252405393156570) ∷ (of_bits binary64 4610144615854222907) ∷ (of_bits binary64 13819016616381881152) ∷ (of_bits binary64 0) ∷ (of_bits binary64 4585925428558828668) ∷ (of_bits binary64 0) ∷ (of_bits binary64 13820576286524041416) ∷ (of_bits binary64 13819016616381881152) ∷ (of_bits binary64 4607239464395297434) ∷ (of_bits binary64 0) ∷ (of_bits binary64 0) ∷ (of_bits binary64 4585925428558828668) ∷ (of_bits binary64 4585925428558828668) ∷ (of_bits binary64 0) ∷ (of_bits binary64 0) ∷ (of_bits binary64 4605380978949069210) ∷ (of_bits binary64 0) ∷ (of_bits binary64 0) ∷ (of_bits binary64 0) ∷ (of_bits binary64 4585925428558828668) ∷ (of_bits binary64 0) ∷ (of_bits binary64 0) ∷ (of_bits binary64 4605380978949069210) ∷ (of_bits binary64 0) ∷ (of_bits binary64 0) ∷ (of_bits binary64 0) ∷ (of_bits binary64 4585925428558828668) ∷ (of_bits binary64 0) ∷ (of_bits binary64 0) ∷ (of_bits binary64 4605380978949069210) ∷ []) }; lifecycle = record { state = Confirmed; created_at = (negsuc 9223372036754775807); last_observation = (Some (negsuc 9223372036754775807)); last_counted = (Some (negsuc 9223372036754775807)); observation_times = 1 }; class_label = (Some 2); class_prior = None; state_timestamp = (negsuc 9223372036654775807); last_update_sensor = (Some 10); contributing_sensors = record { ids = (10 ∷ 0 ∷ 0 ∷ 0 ∷ 0 ∷ 0 ∷ 0 ∷ 0 ∷ 0 ∷ 0 ∷ 0 ∷ 0 ∷ 0 ∷ 0 ∷ 0 ∷ 0 ∷ []); count = 1 }; updated_this_batch = false }) ∷ (record { id = 2; filter = record { state = ((of_bits binary64 13833405264699541861) ∷ (of_bits binary64 13839802510310001850) ∷ (of_bits binary64 4595472326103190490) ∷ (of_bits binary64 0) ∷ (of_bits binary64 0) ∷ (of_bits binary64 0) ∷ []); covariance = ((of_bits binary64 4585925428558828667) ∷ (of_bits binary64 0) ∷ (of_bits binary64 0) ∷ (of_bits binary64 0) ∷ (of_bits binary64 0) ∷ (of_bits binary64 0) ∷ (of_bits binary64 0) ∷ (of_bits binary64 4585925428558828667) ∷ (of_bits binary64 0) ∷ (of_bits binary64 0) ∷ (of_bits binary64 0) ∷ (of_bits binary64 0) ∷ (of_bits binary64 0) ∷ (of_bits binary64 0) ∷ (of_bits binary64 4585925428558828667) ∷ (of_bits binary64 0) ∷ (of_bits binary64 0) ∷ (of_bits binary64 0) ∷ (of_bits binary64 0) ∷ (of_bits binary64 0) ∷ (of_bits binary64 0) ∷ (of_bits binary64 118622047889322841) ∷ (of_bits binary64 0) ∷ (of_bits binary64 0) ∷ (of_bits binary64 0) ∷ (of_bits binary64 0) ∷ (of_bits binary64 0) ∷ (of_bits binary64 0) ∷ (of_bits binary64 118622047889322841) ∷ (of_bits binary64 0) ∷ (of_bits binary64 0) ∷ (of_bits binary64 0) ∷ (of_bits binary64 0) ∷ (of_bits binary64 0) ∷ (of_bits binary64 0) ∷ (of_bits binary64 118622047889322841) ∷ []) }; lifecycle = record { state = Confirmed; created_at = (negsuc 9223372036654775807); last_observation = (Some (negsuc 9223372036654775807)); last_counted = (Some (negsuc 9223372036654775807)); observation_times = 1 }; class_label = None; class_prior = None; state_timestamp = (negsuc 9223372036654775807); last_update_sensor = (Some 0); contributing_sensors = record { ids = (0 ∷ 0 ∷ 0 ∷ 0 ∷ 0 ∷ 0 ∷ 0 ∷ 0 ∷ 0 ∷ 0 ∷ 0 ∷ 0 ∷ 0 ∷ 0 ∷ 0 ∷ 0 ∷ []); count = 1 }; updated_this_batch = true }) ∷ []); next = 3; last = (Some (negsuc 9223372036654775807)); sequences = ((record { sensor = 0; sequence = 2 }) ∷ (record { sensor = 10; sequence = 2 }) ∷ []); candidates = ((record { position = ((of_bits binary64 4618464715816911714) ∷ (of_bits binary64 13840950458797753800) ∷ (of_bits binary64 13841482154561836156) ∷ []); last_seen = (negsuc 9223372036654775807); sightings = 1 }) ∷ []) }

-- seed 7192 size 15 window false birth true persist false std true: u0s4n0 r5 d r10  c[0, 0, 0, 0, 0]
abbrev pub config7192 : Cartesian3DTrackerConfig
config7192 = record { lifecycle = record { confirm_min_observation_times = 1; tentative_timeout_ns = (pos 1); confirmed_to_lost_ns = (pos 1000000000); lost_to_delete_ns = (pos 1000000000) }; new_track_score_threshold = (Some (of_bits binary64 0)); max_contributing_sensors = 2; frame_id = (record { bytes = (119 ∷ 111 ∷ 114 ∷ 108 ∷ 100 ∷ 0 ∷ 0 ∷ 0 ∷ 0 ∷ 0 ∷ 0 ∷ 0 ∷ 0 ∷ 0 ∷ 0 ∷ 0 ∷ 0 ∷ 0 ∷ 0 ∷ 0 ∷ 0 ∷ 0 ∷ 0 ∷ 0 ∷ 0 ∷ 0 ∷ 0 ∷ 0 ∷ 0 ∷ 0 ∷ 0 ∷ 0 ∷ []); length = 5 }); accel_spectral_density = (of_bits binary64 4607182418800017408); initial_velocity_variance = (of_bits binary64 118622047889322841); gate_squared_mahalanobis = (of_bits binary64 9218868437227405311); class_prior_penalty = (of_bits binary64 4620693217682128896); recent_track_window_ns = None; min_birth_distance_m = (Some (of_bits binary64 4611686018427387904)); birth_persistence = None; birth_candidate_radius_m = (of_bits binary64 4602678819172646912); birth_candidate_timeout_ns = (pos 300000000); velocity_measurement_std = (Some (of_bits binary64 7598952565167317594)) }

abbrev pub calls7192 : List Call
calls7192 = ((process_batch (record { sensor_id = 0; sequence = 1; timestamp = (pos 2); frame_id = (record { bytes = (119 ∷ 111 ∷ 114 ∷ 108 ∷ 100 ∷ 0 ∷ 0 ∷ 0 ∷ 0 ∷ 0 ∷ 0 ∷ 0 ∷ 0 ∷ 0 ∷ 0 ∷ 0 ∷ 0 ∷ 0 ∷ 0 ∷ 0 ∷ 0 ∷ 0 ∷ 0 ∷ 0 ∷ 0 ∷ 0 ∷ 0 ∷ 0 ∷ 0 ∷ 0 ∷ 0 ∷ 0 ∷ []); length = 5 }); observations = ((record { position = ((of_bits binary64 6895138768528498086) ∷ (of_bits binary64 0) ∷ (of_bits binary64 0) ∷ []); covariance = ((of_bits binary64 4585925428558828667) ∷ (of_bits binary64 0) ∷ (of_bits binary64 0) ∷ (of_bits binary64 0) ∷ (of_bits binary64 4585925428558828667) ∷ (of_bits binary64 0) ∷ (of_bits binary64 0) ∷ (of_bits binary64 0) ∷ (of_bits binary64 4585925428558828667) ∷ []); velocity = None; class_label = None; score = None }) ∷ (record { position = ((of_bits binary64 6890027840425942863) ∷ (of_bits binary64 0) ∷ (of_bits binary64 0) ∷ []); covariance = ((of_bits binary64 4585925428558828667) ∷ (of_bits binary64 0) ∷ (of_bits binary64 0) ∷ (of_bits binary64 0) ∷ (of_bits binary64 4585925428558828667) ∷ (of_bits binary64 0) ∷ (of_bits binary64 0) ∷ (of_bits binary64 0) ∷ (of_bits binary64 4585925428558828667) ∷ []); velocity = None; class_label = None; score = None }) ∷ (record { position = ((of_bits binary64 6888599047396997996) ∷ (of_bits binary64 0) ∷ (of_bits binary64 0) ∷ []); covariance = ((of_bits binary64 4585925428558828667) ∷ (of_bits binary64 0) ∷ (of_bits binary64 0) ∷ (of_bits binary64 0) ∷ (of_bits binary64 4585925428558828667) ∷ (of_bits binary64 0) ∷ (of_bits binary64 0) ∷ (of_bits binary64 0) ∷ (of_bits binary64 4585925428558828667) ∷ []); velocity = None; class_label = None; score = (Some (of_bits binary64 4589392957238180304)) }) ∷ (record { position = ((of_bits binary64 6895543987886340840) ∷ (of_bits binary64 0) ∷ (of_bits binary64 0) ∷ []); covariance = ((of_bits binary64 4585925428558828667) ∷ (of_bits binary64 0) ∷ (of_bits binary64 0) ∷ (of_bits binary64 0) ∷ (of_bits binary64 4585925428558828667) ∷ (of_bits binary64 0) ∷ (of_bits binary64 0) ∷ (of_bits binary64 0) ∷ (of_bits binary64 4585925428558828667) ∷ []); velocity = None; class_label = None; score = None }) ∷ []); count = 4 })) ∷ (process_batch (record { sensor_id = 10; sequence = 2; timestamp = (pos 2); frame_id = (record { bytes = (119 ∷ 111 ∷ 114 ∷ 108 ∷ 100 ∷ 0 ∷ 0 ∷ 0 ∷ 0 ∷ 0 ∷ 0 ∷ 0 ∷ 0 ∷ 0 ∷ 0 ∷ 0 ∷ 0 ∷ 0 ∷ 0 ∷ 0 ∷ 0 ∷ 0 ∷ 0 ∷ 0 ∷ 0 ∷ 0 ∷ 0 ∷ 0 ∷ 0 ∷ 0 ∷ 0 ∷ 0 ∷ []); length = 5 }); observations = ((record { position = ((of_bits binary64 6892922298434478451) ∷ (of_bits binary64 0) ∷ (of_bits binary64 0) ∷ []); covariance = ((of_bits binary64 4606960359524784076) ∷ (of_bits binary64 0) ∷ (of_bits binary64 0) ∷ (of_bits binary64 0) ∷ (of_bits binary64 4589149774082805477) ∷ (of_bits binary64 0) ∷ (of_bits binary64 0) ∷ (of_bits binary64 0) ∷ (of_bits binary64 4586564849106049376) ∷ []); velocity = None; class_label = None; score = None }) ∷ (record { position = ((of_bits binary64 4605501512429035227) ∷ (of_bits binary64 0) ∷ (of_bits binary64 0) ∷ []); covariance = ((of_bits binary64 4585925428558828667) ∷ (of_bits binary64 0) ∷ (of_bits binary64 0) ∷ (of_bits binary64 0) ∷ (of_bits binary64 4585925428558828667) ∷ (of_bits binary64 0) ∷ (of_bits binary64 0) ∷ (of_bits binary64 0) ∷ (of_bits binary64 4585925428558828667) ∷ []); velocity = (Some (record { x = of_bits binary64 4603941312541906352; y = of_bits binary64 13832629696422781694 })); class_label = (Some 0); score = (Some (of_bits binary64 4606287110459458323)) }) ∷ []); count = 2 })) ∷ (predict_to (pos 100000002)) ∷ (process_batch (record { sensor_id = 20; sequence = 1; timestamp = (pos 200000002); frame_id = (record { bytes = (119 ∷ 111 ∷ 114 ∷ 108 ∷ 100 ∷ 0 ∷ 0 ∷ 0 ∷ 0 ∷ 0 ∷ 0 ∷ 0 ∷ 0 ∷ 0 ∷ 0 ∷ 0 ∷ 0 ∷ 0 ∷ 0 ∷ 0 ∷ 0 ∷ 0 ∷ 0 ∷ 0 ∷ 0 ∷ 0 ∷ 0 ∷ 0 ∷ 0 ∷ 0 ∷ 0 ∷ 0 ∷ []); length = 5 }); observations = ((record { position = ((of_bits binary64 6888671345960806995) ∷ (of_bits binary64 0) ∷ (of_bits binary64 0) ∷ []); covariance = ((of_bits binary64 4585925428558828667) ∷ (of_bits binary64 0) ∷ (of_bits binary64 0) ∷ (of_bits binary64 0) ∷ (of_bits binary64 4585925428558828667) ∷ (of_bits binary64 0) ∷ (of_bits binary64 0) ∷ (of_bits binary64 0) ∷ (of_bits binary64 4585925428558828667) ∷ []); velocity = (Some (record { x = of_bits binary64 13831117405608214528; y = of_bits binary64 4607182418800017408 })); class_label = None; score = (Some (of_bits binary64 13596367275031527424)) }) ∷ []); count = 1 })) ∷ [])

abbrev pub answers7192 : List Answer
answers7192 = ((told (record { time = (pos 2); sensor = 0; associations = ((record { observation_index = 0; track_id = Some 1; outcome = Spawned; cost = None }) ∷ (record { observation_index = 1; track_id = Some 2; outcome = Spawned; cost = None }) ∷ (record { observation_index = 2; track_id = Some 3; outcome = Spawned; cost = None }) ∷ (record { observation_index = 3; track_id = Some 4; outcome = Spawned; cost = None }) ∷ []); unmatched = ([]) })) ∷ (no 5) ∷ done ∷ (no 10) ∷ [])

abbrev pub state7192 : State
state7192 = record { tracks = ((record { id = 1; filter = record { state = ((of_bits binary64 6895138768528498086) ∷ (of_bits binary64 0) ∷ (of_bits binary64 0) ∷ (of_bits binary64 0) ∷ (of_bits binary64 0) ∷ (of_bits binary64 0) ∷ []); covariance = ((of_bits binary64 4585973466954853952) ∷ (of_bits binary64 0) ∷ (of_bits binary64 0) ∷ (of_bits binary64 4572414629676717180) ∷ (of_bits binary64 0) ∷ (of_bits binary64 0) ∷ (of_bits binary64 0) ∷ (of_bits binary64 4585973466954853952) ∷ (of_bits binary64 0) ∷ (of_bits binary64 0) ∷ (of_bits binary64 4572414629676717180) ∷ (of_bits binary64 0) ∷ (of_bits binary64 0) ∷ (of_bits binary64 0) ∷ (of_bits binary64 4585973466954853952) ∷ (of_bits binary64 0) ∷ (of_bits binary64 0) ∷ (of_bits binary64 4572414629676717180) ∷ (of_bits binary64 4572414629676717180) ∷ (of_bits binary64 0) ∷ (of_bits binary64 0) ∷ (of_bits binary64 4591870180066957722) ∷ (of_bits binary64 0) ∷ (of_bits binary64 0) ∷ (of_bits binary64 0) ∷ (of_bits binary64 4572414629676717180) ∷ (of_bits binary64 0) ∷ (of_bits binary64 0) ∷ (of_bits binary64 4591870180066957722) ∷ (of_bits binary64 0) ∷ (of_bits binary64 0) ∷ (of_bits binary64 0) ∷ (of_bits binary64 4572414629676717180) ∷ (of_bits binary64 0) ∷ (of_bits binary64 0) ∷ (of_bits binary64 4591870180066957722) ∷ []) }; lifecycle = record { state = Confirmed; created_at = (pos 2); last_observation = (Some (pos 2)); last_counted = (Some (pos 2)); observation_times = 1 }; class_label = None; class_prior = None; state_timestamp = (pos 100000002); last_update_sensor = (Some 0); contributing_sensors = record { ids = (0 ∷ 0 ∷ 0 ∷ 0 ∷ 0 ∷ 0 ∷ 0 ∷ 0 ∷ 0 ∷ 0 ∷ 0 ∷ 0 ∷ 0 ∷ 0 ∷ 0 ∷ 0 ∷ []); count = 1 }; updated_this_batch = true }) ∷ (record { id = 2; filter = record { state = ((of_bits binary64 6890027840425942863) ∷ (of_bits binary64 0) ∷ (of_bits binary64 0) ∷ (of_bits binary64 0) ∷ (of_bits binary64 0) ∷ (of_bits binary64 0) ∷ []); covariance = ((of_bits binary64 4585973466954853952) ∷ (of_bits binary64 0) ∷ (of_bits binary64 0) ∷ (of_bits binary64 4572414629676717180) ∷ (of_bits binary64 0) ∷ (of_bits binary64 0) ∷ (of_bits binary64 0) ∷ (of_bits binary64 4585973466954853952) ∷ (of_bits binary64 0) ∷ (of_bits binary64 0) ∷ (of_bits binary64 4572414629676717180) ∷ (of_bits binary64 0) ∷ (of_bits binary64 0) ∷ (of_bits binary64 0) ∷ (of_bits binary64 4585973466954853952) ∷ (of_bits binary64 0) ∷ (of_bits binary64 0) ∷ (of_bits binary64 4572414629676717180) ∷ (of_bits binary64 4572414629676717180) ∷ (of_bits binary64 0) ∷ (of_bits binary64 0) ∷ (of_bits binary64 4591870180066957722) ∷ (of_bits binary64 0) ∷ (of_bits binary64 0) ∷ (of_bits binary64 0) ∷ (of_bits binary64 4572414629676717180) ∷ (of_bits binary64 0) ∷ (of_bits binary64 0) ∷ (of_bits binary64 4591870180066957722) ∷ (of_bits binary64 0) ∷ (of_bits binary64 0) ∷ (of_bits binary64 0) ∷ (of_bits binary64 4572414629676717180) ∷ (of_bits binary64 0) ∷ (of_bits binary64 0) ∷ (of_bits binary64 4591870180066957722) ∷ []) }; lifecycle = record { state = Confirmed; created_at = (pos 2); last_observation = (Some (pos 2)); last_counted = (Some (pos 2)); observation_times = 1 }; class_label = None; class_prior = None; state_timestamp = (pos 100000002); last_update_sensor = (Some 0); contributing_sensors = record { ids = (0 ∷ 0 ∷ 0 ∷ 0 ∷ 0 ∷ 0 ∷ 0 ∷ 0 ∷ 0 ∷ 0 ∷ 0 ∷ 0 ∷ 0 ∷ 0 ∷ 0 ∷ 0 ∷ []); count = 1 }; updated_this_batch = true }) ∷ (record { id = 3; filter = record { state = ((of_bits binary64 6888599047396997996) ∷ (of_bits binary64 0) ∷ (of_bits binary64 0) ∷ (of_bits binary64 0) ∷ (of_bits binary64 0) ∷ (of_bits binary64 0) ∷ []); covariance = ((of_bits binary64 4585973466954853952) ∷ (of_bits binary64 0) ∷ (of_bits binary64 0) ∷ (of_bits binary64 4572414629676717180) ∷ (of_bits binary64 0) ∷ (of_bits binary64 0) ∷ (of_bits binary64 0) ∷ (of_bits binary64 4585973466954853952) ∷ (of_bits binary64 0) ∷ (of_bits binary64 0) ∷ (of_bits binary64 4572414629676717180) ∷ (of_bits binary64 0) ∷ (of_bits binary64 0) ∷ (of_bits binary64 0) ∷ (of_bits binary64 4585973466954853952) ∷ (of_bits binary64 0) ∷ (of_bits binary64 0) ∷ (of_bits binary64 4572414629676717180) ∷ (of_bits binary64 4572414629676717180) ∷ (of_bits binary64 0) ∷ (of_bits binary64 0) ∷ (of_bits binary64 4591870180066957722) ∷ (of_bits binary64 0) ∷ (of_bits binary64 0) ∷ (of_bits binary64 0) ∷ (of_bits binary64 4572414629676717180) ∷ (of_bits binary64 0) ∷ (of_bits binary64 0) ∷ (of_bits binary64 4591870180066957722) ∷ (of_bits binary64 0) ∷ (of_bits binary64 0) ∷ (of_bits binary64 0) ∷ (of_bits binary64 4572414629676717180) ∷ (of_bits binary64 0) ∷ (of_bits binary64 0) ∷ (of_bits binary64 4591870180066957722) ∷ []) }; lifecycle = record { state = Confirmed; created_at = (pos 2); last_observation = (Some (pos 2)); last_counted = (Some (pos 2)); observation_times = 1 }; class_label = None; class_prior = None; state_timestamp = (pos 100000002); last_update_sensor = (Some 0); contributing_sensors = record { ids = (0 ∷ 0 ∷ 0 ∷ 0 ∷ 0 ∷ 0 ∷ 0 ∷ 0 ∷ 0 ∷ 0 ∷ 0 ∷ 0 ∷ 0 ∷ 0 ∷ 0 ∷ 0 ∷ []); count = 1 }; updated_this_batch = true }) ∷ (record { id = 4; filter = record { state = ((of_bits binary64 6895543987886340840) ∷ (of_bits binary64 0) ∷ (of_bits binary64 0) ∷ (of_bits binary64 0) ∷ (of_bits binary64 0) ∷ (of_bits binary64 0) ∷ []); covariance = ((of_bits binary64 4585973466954853952) ∷ (of_bits binary64 0) ∷ (of_bits binary64 0) ∷ (of_bits binary64 4572414629676717180) ∷ (of_bits binary64 0) ∷ (of_bits binary64 0) ∷ (of_bits binary64 0) ∷ (of_bits binary64 4585973466954853952) ∷ (of_bits binary64 0) ∷ (of_bits binary64 0) ∷ (of_bits binary64 4572414629676717180) ∷ (of_bits binary64 0) ∷ (of_bits binary64 0) ∷ (of_bits binary64 0) ∷ (of_bits binary64 4585973466954853952) ∷ (of_bits binary64 0) ∷ (of_bits binary64 0) ∷ (of_bits binary64 4572414629676717180) ∷ (of_bits binary64 4572414629676717180) ∷ (of_bits binary64 0) ∷ (of_bits binary64 0) ∷ (of_bits binary64 4591870180066957722) ∷ (of_bits binary64 0) ∷ (of_bits binary64 0) ∷ (of_bits binary64 0) ∷ (of_bits binary64 4572414629676717180) ∷ (of_bits binary64 0) ∷ (of_bits binary64 0) ∷ (of_bits binary64 4591870180066957722) ∷ (of_bits binary64 0) ∷ (of_bits binary64 0) ∷ (of_bits binary64 0) ∷ (of_bits binary64 4572414629676717180) ∷ (of_bits binary64 0) ∷ (of_bits binary64 0) ∷ (of_bits binary64 4591870180066957722) ∷ []) }; lifecycle = record { state = Confirmed; created_at = (pos 2); last_observation = (Some (pos 2)); last_counted = (Some (pos 2)); observation_times = 1 }; class_label = None; class_prior = None; state_timestamp = (pos 100000002); last_update_sensor = (Some 0); contributing_sensors = record { ids = (0 ∷ 0 ∷ 0 ∷ 0 ∷ 0 ∷ 0 ∷ 0 ∷ 0 ∷ 0 ∷ 0 ∷ 0 ∷ 0 ∷ 0 ∷ 0 ∷ 0 ∷ 0 ∷ []); count = 1 }; updated_this_batch = true }) ∷ []); next = 5; last = (Some (pos 100000002)); sequences = ((record { sensor = 0; sequence = 1 }) ∷ []); candidates = ([]) }

-- seed 22410 size 24 window false birth true persist true std true: u0s1n0 d u1s0n0 u1s0n0 u1s0n4 r4 u1s0n1 u1s0n2 u1s1n0 r2  c[0, 0, 0, 0, 0, 4, 4, 4, 4, 3, 3] credited
abbrev pub config22410 : Cartesian3DTrackerConfig
config22410 = record { lifecycle = record { confirm_min_observation_times = 0; tentative_timeout_ns = (pos 1000000000); confirmed_to_lost_ns = (pos 200000000); lost_to_delete_ns = (pos 200000000) }; new_track_score_threshold = None; max_contributing_sensors = 2; frame_id = (record { bytes = (119 ∷ 111 ∷ 114 ∷ 108 ∷ 100 ∷ 0 ∷ 0 ∷ 0 ∷ 0 ∷ 0 ∷ 0 ∷ 0 ∷ 0 ∷ 0 ∷ 0 ∷ 0 ∷ 0 ∷ 0 ∷ 0 ∷ 0 ∷ 0 ∷ 0 ∷ 0 ∷ 0 ∷ 0 ∷ 0 ∷ 0 ∷ 0 ∷ 0 ∷ 0 ∷ 0 ∷ 0 ∷ []); length = 5 }); accel_spectral_density = (of_bits binary64 4620693217682128896); initial_velocity_variance = (of_bits binary64 4598175219545276416); gate_squared_mahalanobis = (of_bits binary64 4636737291354636288); class_prior_penalty = (of_bits binary64 4620693217682128896); recent_track_window_ns = None; min_birth_distance_m = (Some (of_bits binary64 4611686018427387904)); birth_persistence = (Some 3); birth_candidate_radius_m = (of_bits binary64 4611686018427387904); birth_candidate_timeout_ns = (pos 9223372036854775807); velocity_measurement_std = (Some (of_bits binary64 4596373779694328218)) }

abbrev pub calls22410 : List Call
calls22410 = ((process_batch (record { sensor_id = 0; sequence = 1; timestamp = (pos 100000000); frame_id = (record { bytes = (119 ∷ 111 ∷ 114 ∷ 108 ∷ 100 ∷ 0 ∷ 0 ∷ 0 ∷ 0 ∷ 0 ∷ 0 ∷ 0 ∷ 0 ∷ 0 ∷ 0 ∷ 0 ∷ 0 ∷ 0 ∷ 0 ∷ 0 ∷ 0 ∷ 0 ∷ 0 ∷ 0 ∷ 0 ∷ 0 ∷ 0 ∷ 0 ∷ 0 ∷ 0 ∷ 0 ∷ 0 ∷ []); length = 5 }); observations = ((record { position = ((of_bits binary64 0) ∷ (of_bits binary64 0) ∷ (of_bits binary64 0) ∷ []); covariance = ((of_bits binary64 4585925428558828667) ∷ (of_bits binary64 0) ∷ (of_bits binary64 0) ∷ (of_bits binary64 0) ∷ (of_bits binary64 4585925428558828667) ∷ (of_bits binary64 0) ∷ (of_bits binary64 0) ∷ (of_bits binary64 0) ∷ (of_bits binary64 4585925428558828667) ∷ []); velocity = None; class_label = None; score = (Some (of_bits binary64 4604634450254445215)) }) ∷ []); count = 1 })) ∷ (set_class_prior 1 2 (of_bits binary64 4603700294192696870)) ∷ (process_batch (record { sensor_id = 0; sequence = 3; timestamp = (pos 100000000); frame_id = (record { bytes = (119 ∷ 111 ∷ 114 ∷ 108 ∷ 100 ∷ 0 ∷ 0 ∷ 0 ∷ 0 ∷ 0 ∷ 0 ∷ 0 ∷ 0 ∷ 0 ∷ 0 ∷ 0 ∷ 0 ∷ 0 ∷ 0 ∷ 0 ∷ 0 ∷ 0 ∷ 0 ∷ 0 ∷ 0 ∷ 0 ∷ 0 ∷ 0 ∷ 0 ∷ 0 ∷ 0 ∷ 0 ∷ []); length = 5 }); observations = ((record { position = ((of_bits binary64 0) ∷ (of_bits binary64 0) ∷ (of_bits binary64 0) ∷ []); covariance = ((of_bits binary64 4585925428558828667) ∷ (of_bits binary64 0) ∷ (of_bits binary64 0) ∷ (of_bits binary64 0) ∷ (of_bits binary64 4585925428558828667) ∷ (of_bits binary64 0) ∷ (of_bits binary64 0) ∷ (of_bits binary64 0) ∷ (of_bits binary64 4585925428558828667) ∷ []); velocity = (Some (record { x = of_bits binary64 13830725801056677376; y = of_bits binary64 4604500519527074196 })); class_label = (Some 0); score = None }) ∷ []); count = 1 })) ∷ (process_batch (record { sensor_id = 0; sequence = 5; timestamp = (pos 100000000); frame_id = (record { bytes = (119 ∷ 111 ∷ 114 ∷ 108 ∷ 100 ∷ 0 ∷ 0 ∷ 0 ∷ 0 ∷ 0 ∷ 0 ∷ 0 ∷ 0 ∷ 0 ∷ 0 ∷ 0 ∷ 0 ∷ 0 ∷ 0 ∷ 0 ∷ 0 ∷ 0 ∷ 0 ∷ 0 ∷ 0 ∷ 0 ∷ 0 ∷ 0 ∷ 0 ∷ 0 ∷ 0 ∷ 0 ∷ []); length = 5 }); observations = ((record { position = ((of_bits binary64 4598175219545276416) ∷ (of_bits binary64 0) ∷ (of_bits binary64 0) ∷ []); covariance = ((of_bits binary64 4585925428558828667) ∷ (of_bits binary64 0) ∷ (of_bits binary64 0) ∷ (of_bits binary64 0) ∷ (of_bits binary64 4585925428558828667) ∷ (of_bits binary64 0) ∷ (of_bits binary64 0) ∷ (of_bits binary64 0) ∷ (of_bits binary64 4585925428558828667) ∷ []); velocity = None; class_label = None; score = None }) ∷ []); count = 1 })) ∷ (process_batch (record { sensor_id = 0; sequence = 6; timestamp = (pos 100000000); frame_id = (record { bytes = (119 ∷ 111 ∷ 114 ∷ 108 ∷ 100 ∷ 0 ∷ 0 ∷ 0 ∷ 0 ∷ 0 ∷ 0 ∷ 0 ∷ 0 ∷ 0 ∷ 0 ∷ 0 ∷ 0 ∷ 0 ∷ 0 ∷ 0 ∷ 0 ∷ 0 ∷ 0 ∷ 0 ∷ 0 ∷ 0 ∷ 0 ∷ 0 ∷ 0 ∷ 0 ∷ 0 ∷ 0 ∷ []); length = 5 }); observations = ((record { position = ((of_bits binary64 0) ∷ (of_bits binary64 0) ∷ (of_bits binary64 0) ∷ []); covariance = ((of_bits binary64 4585925428558828667) ∷ (of_bits binary64 0) ∷ (of_bits binary64 0) ∷ (of_bits binary64 0) ∷ (of_bits binary64 4585925428558828667) ∷ (of_bits binary64 0) ∷ (of_bits binary64 0) ∷ (of_bits binary64 0) ∷ (of_bits binary64 4585925428558828667) ∷ []); velocity = None; class_label = (Some 1); score = None }) ∷ (record { position = ((of_bits binary64 4598175219545276416) ∷ (of_bits binary64 0) ∷ (of_bits binary64 0) ∷ []); covariance = ((of_bits binary64 4585925428558828667) ∷ (of_bits binary64 0) ∷ (of_bits binary64 0) ∷ (of_bits binary64 0) ∷ (of_bits binary64 4585925428558828667) ∷ (of_bits binary64 0) ∷ (of_bits binary64 0) ∷ (of_bits binary64 0) ∷ (of_bits binary64 4585925428558828667) ∷ []); velocity = (Some (record { x = of_bits binary64 13834495105328742400; y = of_bits binary64 4609958539045733140 })); class_label = None; score = None }) ∷ (record { position = ((of_bits binary64 13826050856027422720) ∷ (of_bits binary64 4598175219545276416) ∷ (of_bits binary64 0) ∷ []); covariance = ((of_bits binary64 4611257397816762837) ∷ (of_bits binary64 4607396711054067530) ∷ (of_bits binary64 13821828731376762880) ∷ (of_bits binary64 4607396711054067530) ∷ (of_bits binary64 4607365279276628329) ∷ (of_bits binary64 4598175219545276416) ∷ (of_bits binary64 13821828731376762880) ∷ (of_bits binary64 4598175219545276416) ∷ (of_bits binary64 4610675523260996649) ∷ []); velocity = None; class_label = None; score = (Some (of_bits binary64 4605491175804958990)) }) ∷ (record { position = ((of_bits binary64 4604930618986332160) ∷ (of_bits binary64 4598175219545276416) ∷ (of_bits binary64 0) ∷ []); covariance = ((of_bits binary64 4585925428558828667) ∷ (of_bits binary64 0) ∷ (of_bits binary64 0) ∷ (of_bits binary64 0) ∷ (of_bits binary64 4585925428558828667) ∷ (of_bits binary64 0) ∷ (of_bits binary64 0) ∷ (of_bits binary64 0) ∷ (of_bits binary64 4585925428558828667) ∷ []); velocity = (Some (record { x = of_bits binary64 13822818559434467280; y = of_bits binary64 13811696948024321600 })); class_label = None; score = (Some (of_bits binary64 16822324602022093402)) }) ∷ (record { position = ((of_bits binary64 13828302655841107968) ∷ (of_bits binary64 0) ∷ (of_bits binary64 0) ∷ []); covariance = ((of_bits binary64 4585925428558828667) ∷ (of_bits binary64 0) ∷ (of_bits binary64 0) ∷ (of_bits binary64 0) ∷ (of_bits binary64 4585925428558828667) ∷ (of_bits binary64 0) ∷ (of_bits binary64 0) ∷ (of_bits binary64 0) ∷ (of_bits binary64 4585925428558828667) ∷ []); velocity = None; class_label = None; score = None }) ∷ []); count = 5 })) ∷ (process_batch (record { sensor_id = 0; sequence = 6; timestamp = (pos 200000000); frame_id = (record { bytes = (119 ∷ 111 ∷ 114 ∷ 108 ∷ 100 ∷ 0 ∷ 0 ∷ 0 ∷ 0 ∷ 0 ∷ 0 ∷ 0 ∷ 0 ∷ 0 ∷ 0 ∷ 0 ∷ 0 ∷ 0 ∷ 0 ∷ 0 ∷ 0 ∷ 0 ∷ 0 ∷ 0 ∷ 0 ∷ 0 ∷ 0 ∷ 0 ∷ 0 ∷ 0 ∷ 0 ∷ 0 ∷ []); length = 5 }); observations = ((record { position = ((of_bits binary64 0) ∷ (of_bits binary64 0) ∷ (of_bits binary64 0) ∷ []); covariance = ((of_bits binary64 4585925428558828667) ∷ (of_bits binary64 0) ∷ (of_bits binary64 0) ∷ (of_bits binary64 0) ∷ (of_bits binary64 4585925428558828667) ∷ (of_bits binary64 0) ∷ (of_bits binary64 0) ∷ (of_bits binary64 0) ∷ (of_bits binary64 4585925428558828667) ∷ []); velocity = None; class_label = (Some 0); score = (Some (of_bits binary64 4605241005558161388)) }) ∷ []); count = 1 })) ∷ (process_batch (record { sensor_id = 0; sequence = 8; timestamp = (pos 300000000); frame_id = (record { bytes = (119 ∷ 111 ∷ 114 ∷ 108 ∷ 100 ∷ 0 ∷ 0 ∷ 0 ∷ 0 ∷ 0 ∷ 0 ∷ 0 ∷ 0 ∷ 0 ∷ 0 ∷ 0 ∷ 0 ∷ 0 ∷ 0 ∷ 0 ∷ 0 ∷ 0 ∷ 0 ∷ 0 ∷ 0 ∷ 0 ∷ 0 ∷ 0 ∷ 0 ∷ 0 ∷ 0 ∷ 0 ∷ []); length = 5 }); observations = ((record { position = ((of_bits binary64 0) ∷ (of_bits binary64 0) ∷ (of_bits binary64 0) ∷ []); covariance = ((of_bits binary64 4616189618054758400) ∷ (of_bits binary64 9223372036854775808) ∷ (of_bits binary64 9223372036854775808) ∷ (of_bits binary64 9223372036854775808) ∷ (of_bits binary64 4613937818241073152) ∷ (of_bits binary64 9223372036854775808) ∷ (of_bits binary64 9223372036854775808) ∷ (of_bits binary64 9223372036854775808) ∷ (of_bits binary64 4612633766150098058) ∷ []); velocity = None; class_label = None; score = (Some (of_bits binary64 4604246372242909955)) }) ∷ (record { position = ((of_bits binary64 4604930618986332160) ∷ (of_bits binary64 4598175219545276416) ∷ (of_bits binary64 0) ∷ []); covariance = ((of_bits binary64 4585925428558828667) ∷ (of_bits binary64 0) ∷ (of_bits binary64 0) ∷ (of_bits binary64 0) ∷ (of_bits binary64 4585925428558828667) ∷ (of_bits binary64 0) ∷ (of_bits binary64 0) ∷ (of_bits binary64 0) ∷ (of_bits binary64 4585925428558828667) ∷ []); velocity = None; class_label = None; score = None }) ∷ []); count = 2 })) ∷ (process_batch (record { sensor_id = 0; sequence = 10; timestamp = (pos 400000000); frame_id = (record { bytes = (119 ∷ 111 ∷ 114 ∷ 108 ∷ 100 ∷ 0 ∷ 0 ∷ 0 ∷ 0 ∷ 0 ∷ 0 ∷ 0 ∷ 0 ∷ 0 ∷ 0 ∷ 0 ∷ 0 ∷ 0 ∷ 0 ∷ 0 ∷ 0 ∷ 0 ∷ 0 ∷ 0 ∷ 0 ∷ 0 ∷ 0 ∷ 0 ∷ 0 ∷ 0 ∷ 0 ∷ 0 ∷ []); length = 5 }); observations = ((record { position = ((of_bits binary64 0) ∷ (of_bits binary64 0) ∷ (of_bits binary64 0) ∷ []); covariance = ((of_bits binary64 4585925428558828667) ∷ (of_bits binary64 0) ∷ (of_bits binary64 0) ∷ (of_bits binary64 0) ∷ (of_bits binary64 4585925428558828667) ∷ (of_bits binary64 0) ∷ (of_bits binary64 0) ∷ (of_bits binary64 0) ∷ (of_bits binary64 4585925428558828667) ∷ []); velocity = (Some (record { x = of_bits binary64 4604144090609333624; y = of_bits binary64 4607182418800017408 })); class_label = None; score = None }) ∷ (record { position = ((of_bits binary64 13828302655841107968) ∷ (of_bits binary64 4598175219545276416) ∷ (of_bits binary64 0) ∷ []); covariance = ((of_bits binary64 4585925428558828667) ∷ (of_bits binary64 0) ∷ (of_bits binary64 0) ∷ (of_bits binary64 0) ∷ (of_bits binary64 4585925428558828667) ∷ (of_bits binary64 0) ∷ (of_bits binary64 0) ∷ (of_bits binary64 0) ∷ (of_bits binary64 4585925428558828667) ∷ []); velocity = (Some (record { x = of_bits binary64 4607182418800017408; y = of_bits binary64 13833932155375321088 })); class_label = (Some 1); score = None }) ∷ (record { position = ((of_bits binary64 4598175219545276416) ∷ (of_bits binary64 0) ∷ (of_bits binary64 0) ∷ []); covariance = ((of_bits binary64 4585925428558828667) ∷ (of_bits binary64 0) ∷ (of_bits binary64 0) ∷ (of_bits binary64 0) ∷ (of_bits binary64 4585925428558828667) ∷ (of_bits binary64 0) ∷ (of_bits binary64 0) ∷ (of_bits binary64 0) ∷ (of_bits binary64 4585925428558828667) ∷ []); velocity = None; class_label = (Some 0); score = (Some (of_bits binary64 4591864614426640264)) }) ∷ []); count = 3 })) ∷ (process_batch (record { sensor_id = 0; sequence = 12; timestamp = (pos 500000000); frame_id = (record { bytes = (119 ∷ 111 ∷ 114 ∷ 108 ∷ 100 ∷ 0 ∷ 0 ∷ 0 ∷ 0 ∷ 0 ∷ 0 ∷ 0 ∷ 0 ∷ 0 ∷ 0 ∷ 0 ∷ 0 ∷ 0 ∷ 0 ∷ 0 ∷ 0 ∷ 0 ∷ 0 ∷ 0 ∷ 0 ∷ 0 ∷ 0 ∷ 0 ∷ 0 ∷ 0 ∷ 0 ∷ 0 ∷ []); length = 5 }); observations = ((record { position = ((of_bits binary64 0) ∷ (of_bits binary64 0) ∷ (of_bits binary64 0) ∷ []); covariance = ((of_bits binary64 4585925428558828667) ∷ (of_bits binary64 0) ∷ (of_bits binary64 0) ∷ (of_bits binary64 0) ∷ (of_bits binary64 4585925428558828667) ∷ (of_bits binary64 0) ∷ (of_bits binary64 0) ∷ (of_bits binary64 0) ∷ (of_bits binary64 4585925428558828667) ∷ []); velocity = (Some (record { x = of_bits binary64 13835058055282163712; y = of_bits binary64 4607182418800017408 })); class_label = (Some 0); score = (Some (of_bits binary64 4599120332830333964)) }) ∷ (record { position = ((of_bits binary64 4602678819172646912) ∷ (of_bits binary64 4598175219545276416) ∷ (of_bits binary64 0) ∷ []); covariance = ((of_bits binary64 4585925428558828667) ∷ (of_bits binary64 0) ∷ (of_bits binary64 0) ∷ (of_bits binary64 0) ∷ (of_bits binary64 4585925428558828667) ∷ (of_bits binary64 0) ∷ (of_bits binary64 0) ∷ (of_bits binary64 0) ∷ (of_bits binary64 4585925428558828667) ∷ []); velocity = None; class_label = None; score = None }) ∷ []); count = 2 })) ∷ (process_batch (record { sensor_id = 0; sequence = 13; timestamp = (pos 600000000); frame_id = (record { bytes = (119 ∷ 111 ∷ 114 ∷ 108 ∷ 100 ∷ 115 ∷ 0 ∷ 0 ∷ 0 ∷ 0 ∷ 0 ∷ 0 ∷ 0 ∷ 0 ∷ 0 ∷ 0 ∷ 0 ∷ 0 ∷ 0 ∷ 0 ∷ 0 ∷ 0 ∷ 0 ∷ 0 ∷ 0 ∷ 0 ∷ 0 ∷ 0 ∷ 0 ∷ 0 ∷ 0 ∷ 0 ∷ []); length = 6 }); observations = ((record { position = ((of_bits binary64 0) ∷ (of_bits binary64 0) ∷ (of_bits binary64 0) ∷ []); covariance = ((of_bits binary64 4585925428558828667) ∷ (of_bits binary64 0) ∷ (of_bits binary64 0) ∷ (of_bits binary64 0) ∷ (of_bits binary64 4585925428558828667) ∷ (of_bits binary64 0) ∷ (of_bits binary64 0) ∷ (of_bits binary64 0) ∷ (of_bits binary64 4585925428558828667) ∷ []); velocity = None; class_label = None; score = None }) ∷ (record { position = ((of_bits binary64 4602678819172646912) ∷ (of_bits binary64 4598175219545276416) ∷ (of_bits binary64 0) ∷ []); covariance = ((of_bits binary64 4585925428558828667) ∷ (of_bits binary64 0) ∷ (of_bits binary64 0) ∷ (of_bits binary64 0) ∷ (of_bits binary64 4585925428558828667) ∷ (of_bits binary64 0) ∷ (of_bits binary64 0) ∷ (of_bits binary64 0) ∷ (of_bits binary64 4585925428558828667) ∷ []); velocity = (Some (record { x = of_bits binary64 4603804719079489536; y = of_bits binary64 13835058055282163712 })); class_label = None; score = None }) ∷ (record { position = ((of_bits binary64 4602678819172646912) ∷ (of_bits binary64 4598175219545276416) ∷ (of_bits binary64 0) ∷ []); covariance = ((of_bits binary64 4585925428558828667) ∷ (of_bits binary64 0) ∷ (of_bits binary64 0) ∷ (of_bits binary64 0) ∷ (of_bits binary64 4585925428558828667) ∷ (of_bits binary64 0) ∷ (of_bits binary64 0) ∷ (of_bits binary64 0) ∷ (of_bits binary64 4585925428558828667) ∷ []); velocity = None; class_label = (Some 2); score = None }) ∷ []); count = 3 })) ∷ [])

abbrev pub answers22410 : List Answer
answers22410 = ((told (record { time = (pos 100000000); sensor = 0; associations = ((record { observation_index = 0; track_id = Some 1; outcome = Spawned; cost = None }) ∷ []); unmatched = ([]) })) ∷ done ∷ (told (record { time = (pos 100000000); sensor = 0; associations = ((record { observation_index = 0; track_id = Some 1; outcome = Updated; cost = (Some (of_bits binary64 4617211093074808358)) }) ∷ []); unmatched = ([]) })) ∷ (told (record { time = (pos 100000000); sensor = 0; associations = ((record { observation_index = 0; track_id = Some 1; outcome = Updated; cost = (Some (of_bits binary64 4607370068784491179)) }) ∷ []); unmatched = ([]) })) ∷ (told (record { time = (pos 100000000); sensor = 0; associations = ((record { observation_index = 0; track_id = None; outcome = Unmatched; cost = None }) ∷ (record { observation_index = 1; track_id = Some 1; outcome = Updated; cost = (Some (of_bits binary64 4602866469157120682)) }) ∷ (record { observation_index = 2; track_id = None; outcome = Unmatched; cost = None }) ∷ (record { observation_index = 3; track_id = None; outcome = Unmatched; cost = None }) ∷ (record { observation_index = 4; track_id = None; outcome = Unmatched; cost = None }) ∷ []); unmatched = ([]) })) ∷ (no 4) ∷ (told (record { time = (pos 300000000); sensor = 0; associations = ((record { observation_index = 0; track_id = Some 1; outcome = Updated; cost = (Some (of_bits binary64 4581536099429002837)) }) ∷ (record { observation_index = 1; track_id = None; outcome = Unmatched; cost = None }) ∷ []); unmatched = ([]) })) ∷ (told (record { time = (pos 400000000); sensor = 0; associations = ((record { observation_index = 0; track_id = Some 1; outcome = Updated; cost = (Some (of_bits binary64 4609223593008145527)) }) ∷ (record { observation_index = 1; track_id = None; outcome = Unmatched; cost = None }) ∷ (record { observation_index = 2; track_id = None; outcome = Unmatched; cost = None }) ∷ []); unmatched = ([]) })) ∷ (told (record { time = (pos 500000000); sensor = 0; associations = ((record { observation_index = 0; track_id = Some 2; outcome = Spawned; cost = None }) ∷ (record { observation_index = 1; track_id = Some 1; outcome = Updated; cost = (Some (of_bits binary64 4613946931375943080)) }) ∷ []); unmatched = ([]) })) ∷ (no 2) ∷ [])

abbrev pub state22410 : State
state22410 = record { tracks = ((record { id = 1; filter = record { state = ((of_bits binary64 4597056050421424278) ∷ (of_bits binary64 4598490625955003408) ∷ (of_bits binary64 0) ∷ (of_bits binary64 4606828816886840636) ∷ (of_bits binary64 4606766007908836375) ∷ (of_bits binary64 0) ∷ []); covariance = ((of_bits binary64 4578994228826884461) ∷ (of_bits binary64 0) ∷ (of_bits binary64 0) ∷ (of_bits binary64 4584657449091114040) ∷ (of_bits binary64 0) ∷ (of_bits binary64 0) ∷ (of_bits binary64 0) ∷ (of_bits binary64 4578990174864906199) ∷ (of_bits binary64 0) ∷ (of_bits binary64 0) ∷ (of_bits binary64 4584659715856842234) ∷ (of_bits binary64 0) ∷ (of_bits binary64 0) ∷ (of_bits binary64 0) ∷ (of_bits binary64 4582952654023217116) ∷ (of_bits binary64 0) ∷ (of_bits binary64 0) ∷ (of_bits binary64 4592451531348169497) ∷ (of_bits binary64 4584657449091114040) ∷ (of_bits binary64 0) ∷ (of_bits binary64 0) ∷ (of_bits binary64 4605398121458860104) ∷ (of_bits binary64 0) ∷ (of_bits binary64 0) ∷ (of_bits binary64 0) ∷ (of_bits binary64 4584659715856842234) ∷ (of_bits binary64 0) ∷ (of_bits binary64 0) ∷ (of_bits binary64 4605398042242730086) ∷ (of_bits binary64 0) ∷ (of_bits binary64 0) ∷ (of_bits binary64 0) ∷ (of_bits binary64 4592451531348169497) ∷ (of_bits binary64 0) ∷ (of_bits binary64 0) ∷ (of_bits binary64 4608737111121497624) ∷ []) }; lifecycle = record { state = Confirmed; created_at = (pos 100000000); last_observation = (Some (pos 500000000)); last_counted = (Some (pos 500000000)); observation_times = 4 }; class_label = (Some 0); class_prior = (Some (record { label = 2; confidence = of_bits binary64 4603700294192696870 })); state_timestamp = (pos 500000000); last_update_sensor = (Some 0); contributing_sensors = record { ids = (0 ∷ 0 ∷ 0 ∷ 0 ∷ 0 ∷ 0 ∷ 0 ∷ 0 ∷ 0 ∷ 0 ∷ 0 ∷ 0 ∷ 0 ∷ 0 ∷ 0 ∷ 0 ∷ []); count = 1 }; updated_this_batch = true }) ∷ (record { id = 2; filter = record { state = ((of_bits binary64 0) ∷ (of_bits binary64 0) ∷ (of_bits binary64 0) ∷ (of_bits binary64 13835058055282163712) ∷ (of_bits binary64 4607182418800017408) ∷ (of_bits binary64 0) ∷ []); covariance = ((of_bits binary64 4585925428558828667) ∷ (of_bits binary64 0) ∷ (of_bits binary64 0) ∷ (of_bits binary64 0) ∷ (of_bits binary64 0) ∷ (of_bits binary64 0) ∷ (of_bits binary64 0) ∷ (of_bits binary64 4585925428558828667) ∷ (of_bits binary64 0) ∷ (of_bits binary64 0) ∷ (of_bits binary64 0) ∷ (of_bits binary64 0) ∷ (of_bits binary64 0) ∷ (of_bits binary64 0) ∷ (of_bits binary64 4585925428558828667) ∷ (of_bits binary64 0) ∷ (of_bits binary64 0) ∷ (of_bits binary64 0) ∷ (of_bits binary64 0) ∷ (of_bits binary64 0) ∷ (of_bits binary64 0) ∷ (of_bits binary64 4585925428558828668) ∷ (of_bits binary64 0) ∷ (of_bits binary64 0) ∷ (of_bits binary64 0) ∷ (of_bits binary64 0) ∷ (of_bits binary64 0) ∷ (of_bits binary64 0) ∷ (of_bits binary64 4585925428558828668) ∷ (of_bits binary64 0) ∷ (of_bits binary64 0) ∷ (of_bits binary64 0) ∷ (of_bits binary64 0) ∷ (of_bits binary64 0) ∷ (of_bits binary64 0) ∷ (of_bits binary64 4598175219545276416) ∷ []) }; lifecycle = record { state = Confirmed; created_at = (pos 500000000); last_observation = (Some (pos 500000000)); last_counted = (Some (pos 500000000)); observation_times = 3 }; class_label = (Some 0); class_prior = None; state_timestamp = (pos 500000000); last_update_sensor = (Some 0); contributing_sensors = record { ids = (0 ∷ 0 ∷ 0 ∷ 0 ∷ 0 ∷ 0 ∷ 0 ∷ 0 ∷ 0 ∷ 0 ∷ 0 ∷ 0 ∷ 0 ∷ 0 ∷ 0 ∷ 0 ∷ []); count = 1 }; updated_this_batch = true }) ∷ []); next = 3; last = (Some (pos 500000000)); sequences = ((record { sensor = 0; sequence = 12 }) ∷ []); candidates = ((record { position = ((of_bits binary64 13828302655841107968) ∷ (of_bits binary64 0) ∷ (of_bits binary64 0) ∷ []); last_seen = (pos 100000000); sightings = 1 }) ∷ (record { position = ((of_bits binary64 13828302655841107968) ∷ (of_bits binary64 4598175219545276416) ∷ (of_bits binary64 0) ∷ []); last_seen = (pos 400000000); sightings = 2 }) ∷ (record { position = ((of_bits binary64 4604930618986332160) ∷ (of_bits binary64 4598175219545276416) ∷ (of_bits binary64 0) ∷ []); last_seen = (pos 300000000); sightings = 2 }) ∷ []) }
