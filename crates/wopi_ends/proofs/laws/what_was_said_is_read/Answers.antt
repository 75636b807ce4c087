use Rattle.wopi_ends.proofs.Saying.{read_as_said, looks_told}
use Rattle.wopi_ends.proofs.laws.what_was_said_is_read.Goals as goal

pub returns-clause-told : goal.returns-clause-told
returns-clause-told c op a got close more is phrase small tells =
    read_as_said op a got close more (c.what_is_replied_is_read.ensures a close more is phrase small)
    c.bytes_begin_with_one_reply.ensures.one (c.an_answer_comes_back.ensures a close is) tells

pub returns-clause-looks : goal.returns-clause-looks
returns-clause-looks c op a got close more asked is phrase small tells =
    looks_told asked a got (read_as_said op a got close more (c.what_is_replied_is_read.ensures a close more is phrase small)
    c.bytes_begin_with_one_reply.ensures.one (c.an_answer_comes_back.ensures a close is) tells)
