mod CopyLines
mod Untaken
