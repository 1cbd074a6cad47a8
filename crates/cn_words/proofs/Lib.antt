mod CommandLemmas
mod GivenLemmas
mod ReplyLemmas
