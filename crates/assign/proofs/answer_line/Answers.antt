use Rattle.std.proofs.Common.{rules, sym, length-take-le}
use Rattle.text.proofs.Texts.{wrote_fits, wrote_front}
use Rattle.assign.proofs.Lines.{said, on_ok}
use Rattle.assign.proofs.answer_line.Goals as goal

pub slice_bounds-output-end : goal.slice_bounds-output-end
slice_bounds-output-end g c = wrote_fits c.answer-length.ensures

pub slice_bounds-write_all-end : goal.slice_bounds-write_all-end
slice_bounds-write_all-end g c = sym (length-take-le _ _ (wrote_fits c.answer-length.ensures))

pub returns : goal.returns
returns g c =
    on_ok c.write_all.result
    (said _ _ _ _ c.in_ok-n.n c.read_full.new.buf _ (search rules) c.in_ok-n.ensures.within c.in_ok-n.ensures.bytes c.in_ok-n.ensures.end
    (wrote_front _ (search rules) c.answer-length.ensures))
    c.write_all.ensures.bytes
