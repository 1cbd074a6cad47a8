use Rattle.cn_json.proofs.unread_witness.FollowUpJsonValue.write.Goals as goal

pub returns : goal.returns
returns c = rw (c.operation_name.ensures, c.operation_name-2.ensures, c.response_name.ensures) c.object.ensures
