-- How an answer ends, by its end.
use Rattle.std.proofs.Common.{◌≡◌, ℕ, List, ◌++◌, Option, sym, ap, ◌∙◌, append-nil}
use Rattle.split_paths.specs.declared.event.Why.{Why}
use Rattle.report_text.specs.Answers.{is_stopped, last_line, stop_text}
use Rattle.report_text.specs.Lines.{summary_lines}
use Rattle.work_pool.specs.Taken.{IsEnd}
use Rattle.work_pool.specs.declared.taker.End.{End}
use Rattle.work_pool.specs.declared.taker.End.TheVariants.{Finished, Stopped}
use Rattle.tri_many.specs.Early.{end_line_of, is_stopped_at, summary_lines_of}

pub line_of_end : (count : ℕ) (stop : Option (List ℕ × Why)) (end : End) → IsEnd stop end → end_line_of count end ≡ last_line count stop
line_of_end count stop Finished ended = sym (ap (last_line count) ended)
line_of_end count stop (Stopped path why) ended = sym (ap (last_line count) ended)

pub stopped_of_end : (stop : Option (List ℕ × Why)) (end : End) → IsEnd stop end → is_stopped_at end ≡ is_stopped stop
stopped_of_end stop Finished ended = sym (ap is_stopped ended)
stopped_of_end stop (Stopped path why) ended = sym (ap is_stopped ended)

pub summary_of_end : (k chains polys : ℕ) (stop : Option (List ℕ × Why)) (end : End) → IsEnd stop end → summary_lines_of k chains polys end ≡ summary_lines k chains polys ++ stop_text stop
summary_of_end k chains polys stop Finished ended = sym (ap (λ s. summary_lines k chains polys ++ stop_text s) ended ∙ append-nil (summary_lines k chains polys))
summary_of_end k chains polys stop (Stopped path why) ended = sym (ap (λ s. summary_lines k chains polys ++ stop_text s) ended)
