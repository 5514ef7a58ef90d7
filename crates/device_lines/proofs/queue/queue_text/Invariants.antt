use Rattle.std.proofs.Common.{◌≡◌, take, flat_map, string_bytes}
use Rattle.device_lines.specs.Queue.{job_line}
use Rattle.device_lines.proofs.queue.queue_text.Given as goal

abbrev pub invariant-loop-job : goal.invariant-loop-job
invariant-loop-job l = string_bytes l.text ≡ flat_map job_line (take l.job-index l.jobs)
