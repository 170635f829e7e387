use Rattle.sq_commands.proofs.answer_lines.push_heard.Goals as goal

pub returns-in-Fix-clause-bytes : goal.returns-in-Fix-clause-bytes
returns-in-Fix-clause-bytes c decimals = rw c.in-Fix.is (c.push_place.ensures.bytes decimals)

pub returns-in-Followed-clause-bytes : goal.returns-in-Followed-clause-bytes
returns-in-Followed-clause-bytes c decimals = rw c.in-Followed.is (c.push_place-in-Followed.ensures.bytes decimals)

pub returns-in-NoSite-clause-bytes : goal.returns-in-NoSite-clause-bytes
returns-in-NoSite-clause-bytes c decimals = rw c.in-NoSite.is c.push_address-in-NoSite.ensures.bytes

pub returns-in-Split-clause-bytes : goal.returns-in-Split-clause-bytes
returns-in-Split-clause-bytes c decimals = rw c.in-Split.is c.push_split.ensures.bytes
