use Rattle.probe.proofs.probe_expected_position.Goals as goal

pub returns : goal.returns
returns c = record { position = cc; spread = cc }
