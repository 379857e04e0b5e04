-- A rule applied to one channel, and along the links of a task's channels.
mod Walking
mod Rules
