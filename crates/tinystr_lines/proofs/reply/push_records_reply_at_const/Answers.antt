use Rattle.std.proofs.Common.{arith}
use Rattle.tinystr_lines.proofs.Replies.{records_reply-bad}
use Rattle.tinystr_lines.proofs.reply.push_records_reply_at_const.Goals as goal

pub returns-in-Err-Parse : goal.returns-in-Err-Parse
returns-in-Err-Parse g c =
    let refused = rw c.in-Err-Parse.field-0-is at c.in-Err-Parse.ensures.fault in
    rw (records_reply-bad c.args.bytes.now g.row.N c.in-Err-Parse.index (omega arith) refused.0 refused.1) (rw refused.2 at c.push_bad_record.ensures)
